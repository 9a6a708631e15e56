-- Groups one after another: what is joined after each link of the base, and the first place at which two stations are.
use Prim.Native.Nat.{ℕ, zero, suc, ◌+◌, ◌≤◌, ◌<◌}
use Rattle.std.specs.Prelude.{Option, None, Some, MatchOption, unwrap_or, Bool, true, false, ◌&&◌, ◌||◌, ◌⊎◌, ◌≡◌, refl, eqb}
use Rattle.std.proofs.Math.Bool.{not-not, not}
use mathlib.Core.List.Memᴰ
use mathlib.Core.List.Memᴰ.{head as here}
use mathlib.Core.List.Memᴰ.{tail as there}
use mathlib.Core.List.{List, [], ◌∷◌}
use Rattle.std.proofs.Common.{le_refl, inl, inr, ⊎_elim, ◌∙◌, eq-eqb, eqb-true}
use Rattle.std.proofs.Math.Path.{sym, ap}
use native.Mathlib.Omega.{arith}
use Rattle.std.proofs.lemmas.Bool.{not-true}
use Rattle.std.proofs.Math.ListN.{length, get_or, take}
use Rattle.order.specs.Test.{by-test, left}
use Rattle.order.proofs.Test.{right, test_iff}
use Rattle.order.specs.Lists.{◌⊆◌}
use Rattle.order.proofs.Lists.{get_or_default}
use Rattle.spanning.specs.Labelling.{Edge, Labelling, Linked, Same, crosses, merge}
use Rattle.spanning.proofs.Labelling.{crosses-false, merge-joins, merge_keeps, same-crosses, same-merge}
use Rattle.spanning.specs.Tree.{EndsBelow, identity}
use Rattle.spanning.specs.Places.{first_place, place_from}
use Rattle.spanning.proofs.Places.{first-same, from_end, from_found, from_next, from_start}
use Rattle.spanning.specs.Lost.{first_row, lost_one, lost_two, row_at}
use Rattle.network.specs.Capacities.{stations_held}
use Rattle.network.specs.Yard.{ends_at}
use Rattle.forest.specs.Groups.{nobody}
use Rattle.forest.specs.declared.Forest.{Forest}
use Rattle.forest.specs.History.{Near, groups-labels, groups-led, groups_after}
use Rattle.kruskal.specs.Base.{Recorded}

-- the leader of station v after link k
abbrev pub leader_at : List Forest → ℕ → ℕ → ℕ
leader_at history k v = get_or (get_or history k nobody).leader v 0

-- there the stations u and v are in one group
unfoldable pub joined_at : List Forest → ℕ → ℕ → ℕ → Bool
joined_at history u v k = eqb (leader_at history k u) (leader_at history k v)

-- a link joins the groups p and q: r and s are one group then
unfoldable pub one_group : ℕ → ℕ → ℕ → ℕ → Bool
one_group p q r s = (eqb r s || (eqb p r && eqb q s)) || (eqb p s && eqb q r)

-- there, and beside a link from a to b, the stations u and v are in one group
unfoldable pub beside_at : List Forest → ℕ → ℕ → ℕ → ℕ → ℕ → Bool
beside_at history a b u v k = one_group (leader_at history k a) (leader_at history k b) (leader_at history k u) (leader_at history k v)

-- ---- one group is what a merge makes

group-true : (p q r s : ℕ) → one_group p q r s ≡ true → (r ≡ s) ⊎ (((p ≡ r) × (q ≡ s)) ⊎ ((p ≡ s) × (q ≡ r)))
unfolding one_group
group-true p q r s t =
    by-test (eqb r s)
    (λ e. inl (eqb-true r s e))
    (λ e. by-test (eqb p r && eqb q s)
    (λ f. inr (inl (eqb-true p r (left (eqb p r) (eqb q s) f), eqb-true q s (right (eqb p r) (eqb q s) f))))
    (λ f.
    let g : eqb p s && eqb q r ≡ true = rw (e, f) at t in
    inr (inr (eqb-true p s (left (eqb p s) (eqb q r) g), eqb-true q r (right (eqb p s) (eqb q r) g)))))

true-group : (p q r s : ℕ) → (r ≡ s) ⊎ (((p ≡ r) × (q ≡ s)) ⊎ ((p ≡ s) × (q ≡ r))) → one_group p q r s ≡ true
unfolding one_group
true-group p q r s (inl e) = rw (eq-eqb r s e)
true-group p q r s (inr (inl e)) = rw (eq-eqb p r e.0, eq-eqb q s e.1) (by-test (eqb r s) (λ t. rw t) (λ t. rw t))
true-group p q r s (inr (inr e)) =
    rw (eq-eqb p s e.0, eq-eqb q r e.1) (by-test (eqb r s || (eqb p r && eqb q s)) (λ t. rw t) (λ t. rw t))

pub group-merge : (L : Labelling) (e f : Edge) → one_group (L e.a) (L e.b) (L f.a) (L f.b) ≡ not (crosses (merge L e) f)
group-merge L e f =
    test_iff (one_group (L e.a) (L e.b) (L f.a) (L f.b)) (not (crosses (merge L e) f)) (
      λ t. ap not (same-crosses (merge L e) f (joins (group-true (L e.a) (L e.b) (L f.a) (L f.b) t))),
      λ t. true-group (L e.a) (L e.b) (L f.a) (L f.b)
          (parts (same-merge L e f.a f.b (crosses-false (merge L e) f (not-true (crosses (merge L e) f) t)))),
    )
  where
    K : (i j : ℕ) → Same L i j → Same (merge L e) i j
    K = merge_keeps L e

    joins : (Same L f.a f.b) ⊎ ((Same L e.a f.a × Same L e.b f.b) ⊎ (Same L e.a f.b × Same L e.b f.a))
        → Same (merge L e) f.a f.b
    joins (inl s) = K f.a f.b s
    joins (inr (inl s)) = sym (K e.a f.a s.0) ∙ merge-joins L e ∙ K e.b f.b s.1
    joins (inr (inr s)) = sym (K e.b f.a s.1) ∙ sym (merge-joins L e) ∙ K e.a f.b s.0

    parts : Linked L e f.a f.b
        → (Same L f.a f.b) ⊎ ((Same L e.a f.a × Same L e.b f.b) ⊎ (Same L e.a f.b × Same L e.b f.a))
    parts (inl s) = inl s
    parts (inr (inl s)) = inr (inl (sym s.0, sym s.1))
    parts (inr (inr s)) = inr (inr (sym s.1, sym s.0))

-- ---- the rows

take-among : (n : ℕ) (l : List ℕ) → take n l ⊆ l
take-among zero l e m = elim m [ ]
take-among (suc n) [] e m = m
take-among (suc n) (x ∷ l) e m = ⊎_elim (λ q. here q) (λ k. there (take-among n l e k)) (Memᴰ.cases_cons m)

module _ (ends : List ℕ) where
  module _ (base : List ℕ) (history : List Forest) (near : Near ends base) (rows : Recorded ends base history) where
    row_label : (k v : ℕ) → k < length base → v < stations_held → leader_at history k v ≡ row_at (ends_at ends) identity base k v
    unfolding row_at
    row_label k v h s =
        let l : List ℕ = take (k + 1) base in
        let some_near : Near ends l = λ e m. near e (take-among (k + 1) base e m) in
        let led = groups-led ends l some_near in
        rw (rows.row k h)
        (get_or_default (groups_after ends l).leader v 0 v (omega (arith, led.stations.size)) ∙ ap (λ (L : Labelling). L v) (groups-labels ends l some_near))

    -- the place that joins the ends of e
    pub place-one : (e : Edge) → EndsBelow stations_held e
        → first_place (joined_at history e.a e.b) 0 (length base) ≡ lost_one (ends_at ends) identity base e
    unfolding joined_at lost_one first_row crosses
    place-one e w =
        first-same (joined_at history e.a e.b) (λ k. not (crosses (row_at (ends_at ends) identity base k) e)) 0 (length base)
        (λ k g h.
        let below : k < length base = omega arith in
        rw (row_label k e.a below w.0, row_label k e.b below w.1, not-not))

    -- the place that joins the ends of f beside e
    pub place-two : (e f : Edge) → EndsBelow stations_held e → EndsBelow stations_held f
        → first_place (beside_at history e.a e.b f.a f.b) 0 (length base) ≡ lost_two (ends_at ends) identity base e f
    unfolding beside_at lost_two first_row
    place-two e f w u =
        first-same (beside_at history e.a e.b f.a f.b) (λ k. not (crosses (merge (row_at (ends_at ends) identity base k) e) f)) 0 (length base)
        (λ k g h.
        let below : k < length base = omega arith in
        rw (row_label k e.a below w.0, row_label k e.b below w.1, row_label k f.a below u.0, row_label k f.b below u.1)
        (group-merge (row_at (ends_at ends) identity base k) e f))

-- ---- the first place at which a test holds, as a search for it has it

pub first-found : (p : ℕ → Bool) (n : ℕ) (r : Option ℕ) → MatchOption r ((k : ℕ) → k < n → p k ≡ false)
    (λ i. (i < n) × (p i ≡ true) × ((k : ℕ) → k < i → p k ≡ false)) → unwrap_or r n ≡ first_place p 0 n
first-found p n None h = sym (sym (from_start p n) ∙ passed n (le_refl n) ∙ from_end p n n (le_refl n))
  where
    passed : (k : ℕ) → k ≤ n → place_from p n 0 ≡ place_from p n k
    passed zero g = refl
    passed (suc k) g =
        let e : k + 1 ≡ suc k = omega arith in
        passed k (omega arith) ∙ (rw e at (from_next p n k (omega arith) (h k (omega arith))))
first-found p n (Some i) h = sym (sym (from_start p n) ∙ passed i (le_refl i) ∙ from_found p n i h.0 h.1)
  where
    passed : (k : ℕ) → k ≤ i → place_from p n 0 ≡ place_from p n k
    passed zero g = refl
    passed (suc k) g =
        let e : k + 1 ≡ suc k = omega arith in
        passed k (omega arith) ∙ (rw e at (from_next p n k (omega (arith, h.0)) (h.2 k (omega arith))))
