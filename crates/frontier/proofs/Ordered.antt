-- Positions of any lists by their numbers: the entries of a position are the digits of its number. Positions of one list, taken k times, are all picks of
-- its members, and rise as in a dictionary where the list rises.
use mathlib.Core.List.Memᴰ
use mathlib.Core.List.Memᴰ.{head as here}
use Rattle.std.specs.Prelude.{List, [], ◌∷◌, map, ◌≡◌, refl, ℕ, zero, suc, ◌<◌, ◌/◌, ◌%◌, get_or, length, replicate}
use mathlib.Core.List.Memᴰ.{tail as there}
use Rattle.std.proofs.Common.{⊎_elim, sym, ap, ◌∙◌, mod-lt}
use Rattle.order.specs.Lists.{◌∈◌}
use Rattle.order.proofs.Lists.{map-mem}
use Rattle.order.specs.Order.{Less, TotalOrder, dictionary}
use Rattle.order.proofs.Order.{less-first, less-rest}
use Rattle.order.proofs.Perm.{pairwise_append, pairwise-imp, pairwise_map}
use Rattle.order.specs.Sorted.{Rising}
use Rattle.frontier.specs.Frontier.{Picks, picks-cons, picks-nil, positions, prefix_each, product}
use Rattle.frontier.specs.Places.{pick, places}
use Rattle.frontier.proofs.Places.{factor-pos, places-number, places-range, positions-number}

-- ---- by numbers

module _ {C : Type 0} (d : C) where
  -- a position by the digits of its number
  pub positions-pick : (ls : List (List C)) (n : ℕ) → n < product ls → get_or (positions ls) n [] ≡ pick d (places ls n) ls
  positions-pick ls n h = ap (λ (k : ℕ). get_or (positions ls) k []) (sym (places-number ls n h)) ∙ positions-number d (places-range ls n h)

  -- its first digit is the place in the first list, and the other digits are a position of the other lists
  pub positions-at : (l : List C) (ls : List (List C)) (n : ℕ) → n < product (l ∷ ls)
      → get_or (positions (l ∷ ls)) n [] ≡ get_or l (n / product ls) d ∷ get_or (positions ls) (n % product ls) []
  positions-at l ls n h =
      let k = factor-pos _ (product ls) n h in
      positions-pick (l ∷ ls) n h
      ∙ ap (λ (v : List C). get_or l (n / product ls) d ∷ v) (sym (positions-pick ls (n % product ls) (mod-lt n k)))

-- ---- in order

module _ {C : Type 0} where
  -- a position in which a value of l is put in front of one of qs
  record Prefixed (l : List C) (qs : List (List C)) (v : List C) : Type 0 where
    value : C
    rest : List C
    among : value ∈ l
    behind : rest ∈ qs
    whole : v ≡ value ∷ rest

  prefixed : (l : List C) (qs : List (List C)) {v : List C} → v ∈ prefix_each l qs → Prefixed l qs v
  prefixed [] qs m = absurd (Memᴰ.not-nil m)
  prefixed (x ∷ l) qs {v} m =
      ⊎_elim {C = Prefixed (x ∷ l) qs v}
      (λ n. let w = map-mem (λ q. x ∷ q) qs v n in record { value = x; rest = w.0; among = here refl; behind = w.1; whole = w.2 })
      (λ n. let w = prefixed l qs n in
      record { value = w.value; rest = w.rest; among = there w.among; behind = w.behind; whole = w.whole })
      (Memᴰ.append_cases (map (λ q. x ∷ q) qs) m)

module _ {C K : Type 0} (O : TotalOrder K) (key : C → K) where
  -- the keys of positions, as in a dictionary
  abbrev Rises : List (List C) → Type 0
  Rises = Rising (dictionary O) (map key)

  front-rises : (x : C) (qs : List (List C)) → Rises qs → Rises (map (λ q. x ∷ q) qs)
  front-rises x qs r =
      pairwise_map (λ v w. Less (dictionary O) (map key v) (map key w)) (λ q. x ∷ q) qs
      (pairwise-imp (λ v w h. less-rest O (key x) (map key v) (map key w) h) qs r)

  each-rises : (l : List C) (qs : List (List C)) → Rising O key l → Rises qs → Rises (prefix_each l qs)
  each-rises [] qs r s = tt
  each-rises (x ∷ l) qs r s =
      pairwise_append (λ v w. Less (dictionary O) (map key v) (map key w)) (map (λ q. x ∷ q) qs) (prefix_each l qs)
      (front-rises x qs s) (each-rises l qs r.1 s)
      (λ v w m n.
      let a = map-mem (λ q. x ∷ q) qs v m in
      let b = prefixed l qs n in
      rw (a.2, b.whole) (less-first O (key x) (key b.value) (map key a.0) (map key b.rest) (r.0 b.value b.among)))

  -- positions of a rising list, taken k times, rise as in a dictionary
  pub positions-rise : (l : List C) → Rising O key l → (k : ℕ) → Rises (positions (replicate k l))
  positions-rise l r zero = (λ v m. absurd (Memᴰ.not-nil m), tt)
  positions-rise l r (suc k) = each-rises l (positions (replicate k l)) r (positions-rise l r k)

-- ---- picks of one list, taken k times

module _ {C : Type 0} (l : List C) where
  -- each entry is a member of the list
  pub picks-each : (k : ℕ) {v : List C} → Picks v (replicate k l) → (x : C) → x ∈ v → x ∈ l
  picks-each zero picks-nil x m = absurd (Memᴰ.not-nil m)
  picks-each (suc k) (picks-cons {x = y} n p) x m = ⊎_elim (λ (e : x ≡ y). rw e n) (λ n. picks-each k p x n) (Memᴰ.cases_cons m)

  -- and every list of members is a pick
  pub each-picks : (v : List C) → ((x : C) → x ∈ v → x ∈ l) → Picks v (replicate (length v) l)
  each-picks [] h = picks-nil
  each-picks (x ∷ v) h = picks-cons (h x (here refl)) (each-picks v (λ y m. h y (there m)))
