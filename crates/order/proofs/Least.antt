-- The leftmost least member among those that pass a test: its laws, the scan from left to right, and ties broken by a second order.
use Rattle.std.specs.Prelude.{Bool, true, false, cond, ◌&&◌, List, [], ◌∷◌, ◌++◌, ◌≡◌, refl}
use mathlib.Core.List.Memᴰ
use mathlib.Core.List.Memᴰ.{head as here}
use mathlib.Core.List.Memᴰ.{tail as there}
use Rattle.std.proofs.Common.{inl, inr, sym, ap, ◌∙◌}
use Rattle.std.proofs.Math.Option.{Option, none, some, some-injective, some-ne-none, none-ne-some}
use Rattle.order.specs.Test.{Decided, by-test, clash, left}
use Rattle.order.proofs.Test.{both, decide, refute, right}
use Rattle.order.specs.Lists.{◌∈◌, first}
use Rattle.order.specs.Order.{Less, TotalOrder, pair-first, pair-second, pairs}
use Rattle.order.proofs.Order.{le_refl, less-le-trans, less→le}
use Rattle.order.specs.Sorted.{Rising}
use Rattle.order.proofs.Sorted.{rising-first}
use Rattle.order.specs.Least.{IsLeast, better, challenge, least, ranked, scan}

module _ {C A : Type 0} (O : TotalOrder C) (f : A → C) where
  open O use {le, le_trans, le_antisym, le_total}

  -- x is taken where it costs no more than the one on its right: of equal costs the left one
  better-left : (x y : A) → le (f x) (f y) ≡ true → better O f x (some y) ≡ some x
  better-left x y w = rw w

  -- what `least` gives for a list that begins with x, by cases
  data Step (p : A → Bool) (x : A) (l : List A) (o : Option A) : Type 0 where
    skips : p x ≡ false → least O f p l ≡ o → Step p x l o
    alone : p x ≡ true → least O f p l ≡ none → some x ≡ o → Step p x l o
    wins : (y : A) → p x ≡ true → least O f p l ≡ some y → le (f x) (f y) ≡ true → some x ≡ o → Step p x l o
    loses : (y : A) → p x ≡ true → least O f p l ≡ some y → Less O (f y) (f x) → some y ≡ o → Step p x l o

  step : (p : A → Bool) (x : A) (l : List A) (o : Option A) → least O f p (x ∷ l) ≡ o → Step p x l o
  step p x l o h = go (decide (p x)) (least O f p l) refl
    where
      compare : (y : A) → p x ≡ true → least O f p l ≡ some y → better O f x (some y) ≡ o → Decided (le (f x) (f y)) → Step p x l o
      compare y k e q (inl w) = wins y k e w (sym (better-left x y w) ∙ q)
      compare y k e q (inr w) = loses y k e w (rw w at q)

      go : Decided (p x) → (r : Option A) → least O f p l ≡ r → Step p x l o
      go (inr k) r e = skips k (rw k at h)
      go (inl k) none e = alone k e (rw (k, e) at h)
      go (inl k) (some y) e = compare y k e (rw (k, e) at h) (decide (le (f x) (f y)))

  -- none: no member passes
  pub least-none : (p : A → Bool) (l : List A) → least O f p l ≡ none → {a : A} → a ∈ l → p a ≡ false
  least-none p [] h m = absurd (Memᴰ.not-nil m)
  least-none p (x ∷ l) h {a} m = go (step p x l none h) m (λ e (k : a ∈ l). least-none p l e k)
    where
      go : Step p x l none → a ∈ x ∷ l → (least O f p l ≡ none → a ∈ l → p a ≡ false) → p a ≡ false
      go (skips k e) (here q) ih = rw q k
      go (skips k e) (there n) ih = ih e n
      go (alone k e q) n ih = absurd (some-ne-none x q)
      go (wins y k e w q) n ih = absurd (some-ne-none x q)
      go (loses y k e w q) n ih = absurd (some-ne-none y q)

  -- the converse
  pub none-least : (p : A → Bool) (l : List A) → ((a : A) → a ∈ l → p a ≡ false) → least O f p l ≡ none
  none-least p [] h = refl
  none-least p (x ∷ l) h = rw (h x (here refl)) (none-least p l (λ a m. h a (there m)))

  pub least-some : (p : A → Bool) (l : List A) (s : A) → least O f p l ≡ some s → IsLeast O f p l s
  least-some p [] s h = absurd (none-ne-some s h)
  least-some p (x ∷ l) s h = go (step p x l (some s) h) (λ (y : A) (e : least O f p l ≡ some y). least-some p l y e)
    where
      x-is : some x ≡ some s → p x ≡ true → ((t : A) → t ∈ l → p t ≡ true → le (f x) (f t) ≡ true) → IsLeast O f p (x ∷ l) s
      x-is q k low =
          let e : s ≡ x = sym (some-injective x s q) in
          record { member = here e; passes = rw e k; lowest = λ t m c. rw e (all t m c) }
        where
          all : (t : A) → t ∈ x ∷ l → p t ≡ true → le (f x) (f t) ≡ true
          all t (here q) c = rw q (le_refl O (f x))
          all t (there m) c = low t m c

      s-is : IsLeast O f p l s → ((p x ≡ true) → le (f s) (f x) ≡ true) → IsLeast O f p (x ∷ l) s
      s-is i low = record { member = there i.member; passes = i.passes; lowest = all }
        where
          all : (t : A) → t ∈ x ∷ l → p t ≡ true → le (f s) (f t) ≡ true
          all t (here q) c = rw q (low (rw q at c))
          all t (there m) c = i.lowest t m c

      go : Step p x l (some s) → ((y : A) → least O f p l ≡ some y → IsLeast O f p l y) → IsLeast O f p (x ∷ l) s
      go (skips k e) ih = s-is (ih s e) (λ c. clash c k)
      go (alone k e q) ih = x-is q k (λ t m c. clash c (least-none p l e m))
      go (wins y k e w q) ih = x-is q k (λ t m c. le_trans (f x) (f y) (f t) w ((ih y e).lowest t m c))
      go (loses y k e w q) ih = let r : y ≡ s = some-injective y s q in s-is (ih s (e ∙ ap some r)) (λ c. le_total (f x) (f s) (rw r at w))

  -- where a member passes there is a least one
  pub least-exists : (p : A → Bool) (l : List A) {a : A} → a ∈ l → p a ≡ true → (s : A) × (least O f p l ≡ some s)
  least-exists p l {a} m k = go (least O f p l) refl
    where
      go : (o : Option A) → least O f p l ≡ o → (s : A) × (least O f p l ≡ some s)
      go none e = clash k (least-none p l e m)
      go (some s) e = (s, e)

  -- fewer members pass, the least one among them: it is still the least one
  pub least-restrict : (p q : A → Bool) → ((t : A) → q t ≡ true → p t ≡ true) → (l : List A) (s : A) → least O f p l ≡ some s → q s ≡ true
      → least O f q l ≡ some s
  least-restrict p q sub [] s h c = absurd (none-ne-some s h)
  least-restrict p q sub (x ∷ l) s h c = go (step p x l (some s) h) (λ (e : least O f p l ≡ some s). least-restrict p q sub l s e c)
    where
      -- x stays ahead of the least of the rest
      ahead : (r : Option A) → least O f q l ≡ r → q x ≡ true → ((t : A) → t ∈ l → q t ≡ true → le (f x) (f t) ≡ true) → least O f q (x ∷ l) ≡ some x
      ahead none e k low = rw (k, e)
      ahead (some y) e k low = let i = least-some q l y e in rw (k, e, (low y i.member i.passes))

      x-is : some x ≡ some s → ((t : A) → t ∈ l → q t ≡ true → le (f x) (f t) ≡ true) → least O f q (x ∷ l) ≡ some s
      x-is e low = ahead (least O f q l) refl (rw (some-injective x s e) c) low ∙ e

      -- x stays behind s
      behind : least O f q l ≡ some s → ((q x ≡ true) → Less O (f s) (f x)) → Decided (q x) → least O f q (x ∷ l) ≡ some s
      behind e w (inl k) = rw (k, e, (w k))
      behind e w (inr k) = rw k e

      go : Step p x l (some s) → (least O f p l ≡ some s → least O f q l ≡ some s) → least O f q (x ∷ l) ≡ some s
      go (skips k e) ih = behind (ih e) (λ m. clash (sub x m) k) (decide (q x))
      go (alone k e r) ih = x-is r (λ t m w. clash (sub t w) (least-none p l e m))
      go (wins y k e w r) ih = x-is r (λ t m v. le_trans (f x) (f y) (f t) w ((least-some p l y e).lowest t m (sub t v)))
      go (loses y k e w r) ih = behind (ih (e ∙ r)) (λ m. rw (some-injective y s r) at w) (decide (q x))

  -- fewer members pass, none before: none still
  pub least-restrict-none : (p q : A → Bool) → ((t : A) → q t ≡ true → p t ≡ true) → (l : List A) → least O f p l ≡ none → least O f q l ≡ none
  least-restrict-none p q sub l h = none-least q l (λ a m. refute (q a) (p a) (sub a) (least-none p l h m))

  -- the least one is the first of any group that it is in and that passes at no higher cost
  pub least_first : (p q : A → Bool) (l : List A) (s : A) → least O f p l ≡ some s → q s ≡ true
      → ((t : A) → q t ≡ true → (p t ≡ true) × (le (f t) (f s) ≡ true)) → first q l ≡ some s
  least_first p q [] s h c sub = absurd (none-ne-some s h)
  least_first p q (x ∷ l) s h c sub = go (step p x l (some s) h) (λ (e : least O f p l ≡ some s). least_first p q l s e c sub)
    where
      x-is : some x ≡ some s → first q (x ∷ l) ≡ some s
      x-is e = let k : q x ≡ true = rw (some-injective x s e) c in rw k e

      behind : q x ≡ false → first q l ≡ some s → first q (x ∷ l) ≡ some s
      behind k e = rw k e

      go : Step p x l (some s) → (least O f p l ≡ some s → first q l ≡ some s) → first q (x ∷ l) ≡ some s
      go (skips k e) ih = behind (refute (q x) (p x) (λ m. (sub x m).0) k) (ih e)
      go (alone k e r) ih = x-is r
      go (wins y k e w r) ih = x-is r
      go (loses y k e w r) ih = behind (refute (q x) (le (f x) (f s)) (λ m. (sub x m).1) (rw (some-injective y s r) at w)) (ih (e ∙ r))

  -- the way back: a member that passes, lowest, and the first of those that pass and cost no more
  pub least-intro : (p : A → Bool) (l : List A) (s : A) → IsLeast O f p l s → first (λ t. p t && le (f t) (f s)) l ≡ some s → least O f p l ≡ some s
  least-intro p l s i h = w.1 ∙ sym found ∙ h
    where
      w : (t : A) × (least O f p l ≡ some t)
      w = least-exists p l i.member i.passes

      t : A
      t = w.0

      j : IsLeast O f p l t
      j = least-some p l t w.1

      near : le (f t) (f s) ≡ true
      near = j.lowest s i.member i.passes

      found : first (λ u. p u && le (f u) (f s)) l ≡ some t
      found =
          least_first p (λ u. p u && le (f u) (f s)) l t w.1 (both j.passes near)
          (λ u k. (left (p u) (le (f u) (f s)) k, le_trans (f u) (f s) (f t) (right (p u) (le (f u) (f s)) k) (i.lowest t j.member j.passes)))

module _ {C A : Type 0} (O : TotalOrder C) (f : A → C) where
  open O use {le, le_trans, le_total}

  -- the best so far, or what the rest has if that costs strictly less
  abbrev prefer : Option A → Option A → Option A
  prefer none r = r
  prefer (some y) r = better O f y r

  -- of equal costs the left one stays, from the left as from the right
  challenge-better : (o : Option A) (x : A) (r : Option A) → prefer (challenge O f o x) r ≡ prefer o (better O f x r)
  challenge-better none x r = refl
  challenge-better (some y) x none = by-test (le (f y) (f x)) (λ e. rw e) (λ e. rw e)
  challenge-better (some y) x (some z) = go (decide (le (f y) (f x))) (decide (le (f x) (f z)))
    where
      go : Decided (le (f y) (f x)) → Decided (le (f x) (f z)) → prefer (challenge O f (some y) x) (some z) ≡ prefer (some y) (better O f x (some z))
      go (inl a) (inl b) = rw (a, b, a, (le_trans (f y) (f x) (f z) a b))
      go (inl a) (inr b) = rw (a, b)
      go (inr a) (inl b) = rw (a, b, a)
      go (inr a) (inr b) = rw (a, b, (less-le-trans O (f z) (f x) (f y) b (less→le O (f x) (f y) a)))

  scan-prefer : (p : A → Bool) (l : List A) (o : Option A) → scan O f p o l ≡ prefer o (least O f p l)
  scan-prefer p [] none = refl
  scan-prefer p [] (some y) = refl
  scan-prefer p (x ∷ l) o = go (decide (p x)) (scan-prefer p l (challenge O f o x)) (scan-prefer p l o)
    where
      go : Decided (p x) → scan O f p (challenge O f o x) l ≡ prefer (challenge O f o x) (least O f p l)
          → scan O f p o l ≡ prefer o (least O f p l) → scan O f p o (x ∷ l) ≡ prefer o (least O f p (x ∷ l))
      go (inl k) take skip = rw k (take ∙ challenge-better o x (least O f p l))
      go (inr k) take skip = rw k skip

  -- the scan from left to right finds the same
  pub scan-least : (p : A → Bool) (l : List A) → scan O f p none l ≡ least O f p l
  scan-least p l = scan-prefer p l none

-- one more member on the right, for a loop that goes through the list
scan-append : {C A : Type 0} (O : TotalOrder C) (f : A → C) (p : A → Bool) (o : Option A) (l m : List A) → scan O f p o (l ++ m) ≡ scan O f p (scan O f p o l) m
scan-append O f p o [] m = refl
scan-append O f p o (x ∷ l) m = scan-append O f p (cond (p x) (challenge O f o x) o) l m

pub least-snoc : {C A : Type 0} (O : TotalOrder C) (f : A → C) (p : A → Bool) (l : List A) (x : A)
    → least O f p (l ++ (x ∷ [])) ≡ cond (p x) (challenge O f (least O f p l) x) (least O f p l)
least-snoc {A = A} O f p l x =
    sym (scan-least O f p (l ++ (x ∷ []))) ∙ scan-append O f p none l (x ∷ [])
    ∙ ap (λ (o : Option A). cond (p x) (challenge O f o x) o) (scan-least O f p l)

-- tests that agree on the members
pub least-ext : {C A : Type 0} (O : TotalOrder C) (f : A → C) (p q : A → Bool) (l : List A) → ((x : A) → x ∈ l → p x ≡ q x) → least O f p l ≡ least O f q l
least-ext O f p q [] h = refl
least-ext O f p q (x ∷ l) h =
    let ih = least-ext O f p q l (λ y m. h y (there m)) in
    by-test (q x) (λ e. let d : p x ≡ true = h x (here refl) ∙ e in rw (d, e, ih)) (λ e. let d : p x ≡ false = h x (here refl) ∙ e in rw (d, e, ih))

-- Ties broken by a second key, in whose strictly rising order the members stand: the least by both keys is the leftmost least by the first.
module _ {C K A : Type 0} (O : TotalOrder C) (f : A → C) (Q : TotalOrder K) (key : A → K) where
  pub least-tie : (p : A → Bool) (l : List A) → Rising Q key l → (s : A) → IsLeast (pairs O Q) (ranked f key) p l s → least O f p l ≡ some s
  least-tie p l r s i =
      least-intro O f p l s (record { member = i.member; passes = i.passes; lowest = cheapest })
      (rising-first Q key (λ t. p t && near t) s l r i.member (both i.passes (le_refl O (f s)))
      (λ t m k. pair-second O Q (ranked f key s) (ranked f key t) (i.lowest t m (left (p t) (near t) k)) (right (p t) (near t) k)))
    where
      near : A → Bool
      near t = O.le (f t) (f s)

      cheapest : (t : A) → t ∈ l → p t ≡ true → O.le (f s) (f t) ≡ true
      cheapest t m k = pair-first O Q (ranked f key s) (ranked f key t) (i.lowest t m k)
