-- A tree that a search has come to, with its last link taken once more, and the groups after it.
use Rattle.std.specs.Prelude.{◌≡◌, ℕ, ◌+◌, ◌-◌, ◌≤◌, ◌<◌}
use mathlib.Core.List.{List, [], ◌∷◌, ◌++◌}
use Rattle.std.proofs.Common.{sym, ap, ◌∙◌, subst, arith}
use Rattle.std.proofs.Math.ListN.{get_or, length, set, take}
use Rattle.std.proofs.Math.Seq.{length-take-le}
use Rattle.std.proofs.lemmas.List.{set-get_or}
use Rattle.order.specs.Lists.{◌∈◌}
use Rattle.spanning.specs.LabelList.{label_of}
use Rattle.network.specs.Yard.{ends_at}
use Rattle.network.specs.declared.Shape.{Shape}
use Rattle.forest.specs.Groups.{Led, joined}
use Rattle.forest.specs.History.{Near, groups_after}
use Rattle.forest.specs.declared.Forest.{Forest}
use Rattle.trees_enumeration.specs.Growing.{Growable, Roomy, Standing, TreeTaken, Whole, groups-here, last_taken, whole-standing}
use Rattle.trees_enumeration.specs.History.{Recorded, groups_at, joined-after, led-after, recorded_more}

-- a tree without links has no last one
pub whole-none : {shape : Shape} {ends links : List ℕ} {history : List Forest} {taken : ℕ} → TreeTaken shape ends taken links history → taken ≡ 0
    → Whole shape ends (taken - 1) links history
whole-none {shape} {ends} {links} {history} {taken} tree none =
    let size = tree.all in
    let fewer : taken - 1 ≡ taken = omega (arith, none) in
    rw fewer (record {
      all = size;
      known = subst (λ (n : ℕ). (c : ℕ) → c ∈ take n links → c < shape.m) (sym size) tree.known;
      rows = rw none (record { room = omega arith; row = λ k h. absurd (omega arith) });
    })

module _ (shape : Shape) (ends : List ℕ) (can : Growable shape ends) {links : List ℕ} {history : List Forest} (lent : Roomy shape links history) where
  module _ {taken : ℕ} (tree : TreeTaken shape ends taken links history) (some : 0 < taken) {e : ℕ} (last : e ≡ get_or links (taken - 1) 0) where
    -- the ends of links are stations
    near : Near ends (take (taken - 1) links)
    near c m = can.drawable.stations.within c

    -- without the last link
    before : Standing shape.m shape.t ends (taken - 1) (get_or links (taken - 1) 0 + 1) links history
    before = whole-standing shape ends can lent some tree

    here : {f : Forest} → f ≡ groups_at history (taken - 1) → f ≡ groups_after ends (take (taken - 1) links)
    here is = is ∙ groups-here shape ends can lent before

    -- it is one of the links
    pub last-known : e < shape.m
    last-known = omega (arith, last, before.inside)

    pub led-before : {f : Forest} → f ≡ groups_at history (taken - 1) → Led f
    led-before is = led-after ends (take (taken - 1) links) near (here is)

    -- taken once more the links are the same
    pub same-links : set links (taken - 1) e ≡ links
    same-links = ap (set links (taken - 1)) last ∙ set-get_or links (taken - 1) 0

    -- and the groups after each stand behind one another
    pub whole-retaken : {f f' : Forest} {new old : ℕ} → f ≡ groups_at history (taken - 1) → new ≡ label_of f.leader (ends_at ends e).a
        → old ≡ label_of f.leader (ends_at ends e).b → f' ≡ joined f new old
        → Whole shape ends (taken - 1 + 1) (set links (taken - 1) e) (set history (taken - 1) f')
    whole-retaken {f' = f'} is p q j =
        let size = tree.all in
        let front : List ℕ = take (taken - 1) links in
        let all : taken - 1 + 1 ≡ taken = omega (arith, some) in
        let parted : take taken links ≡ front ++ (e ∷ []) =
        last_taken links taken some (omega (arith, size, lent.room)) ∙ ap (λ (c : ℕ). front ++ (c ∷ [])) (sym last) in
        let count : length front ≡ taken - 1 = length-take-le (taken - 1) links (omega (arith, size, lent.room)) in
        let fits : length front + 1 ≤ length history = omega (arith, count, size, lent.rows, some) in
        let rows : Recorded ends (front ++ (e ∷ [])) (set history (length front) f') =
        recorded_more e before.rows fits (joined-after ends front near (here is) e p q j) in
        rw (all, same-links) (record {
          all = size;
          known = subst (λ (n : ℕ). (c : ℕ) → c ∈ take n links → c < shape.m) (sym size) tree.known;
          rows = subst (λ (ts : List ℕ). Recorded ends ts (set history (taken - 1) f')) (sym parted)
              (subst (λ (n : ℕ). Recorded ends (front ++ (e ∷ [])) (set history n f')) count rows);
        })
