-- The ends of a survey's links stand link by link, and their ceiling costs ceiling by ceiling, each ceiling's at the place behind those of the ceilings
-- before it.
use Rattle.std.specs.Prelude.{ℕ, ◌+◌, ◌-◌, ◌*◌, ◌/◌, ◌%◌, ◌≤◌, ◌<◌, ◌≡◌, ℤ, get_or, set, take}
use Rattle.std.proofs.Math.Path.{refl, ap}
use Rattle.std.proofs.Common.{ap₂, sym, ◌∙◌, ext_get_or, length-append, length-take-le, take_at}
use mathlib.Core.List.{List, [], ◌++◌, append_assoc}
use Rattle.std.proofs.Math.Numerals.{add-one}
use native.Mathlib.Omega.{arith}
use Rattle.std.proofs.Math.ListN.{length, length-set}
use borrow.Rule.Slice.PartMut.{post_of, put_mid}
use Rattle.network.proofs.CostsLaws.{ceiling-length}
use Rattle.network.specs.Survey.{ceiling_in, costs_in, end_in, ends_in, link_start}
use Rattle.network.specs.Tabulate.{tabulate}
use Rattle.network.proofs.Tabulate.{tabulate-at, tabulate-length, tabulate-turn}
use Rattle.network.specs.declared.Layout.{Layout}

-- the link records of a layout have costs by so many ceilings
abbrev pub HasCosts : Layout → ℕ → Type 0
HasCosts l p = p ≤ l.slots

-- a list with just the figures f 0 to f (m - 1)
pub tabulated : {A : Type 0} (d : A) (f : ℕ → A) (m : ℕ) (xs : List A) → length xs ≡ m → ((i : ℕ) → i < length xs → get_or xs i d ≡ f i) → xs ≡ tabulate f m
tabulated d f m xs size each =
    ext_get_or d xs (tabulate f m) (size ∙ sym (tabulate-length f m)) (λ i h. each i h ∙ sym (tabulate-at f m i (omega arith) d))

-- a list up to the end of a part of it that was replaced
take-put-end : {A : Type 0} (from to : ℕ) (xs ys : List A) → from ≤ to → to ≤ length xs → length ys ≡ to - from
    → take to (put_mid from (to - from) xs ys) ≡ take from xs ++ ys
take-put-end from to xs ys h room e =
    rw (← (append_assoc (take from xs) ys (post_of from (to - from) xs)))
    (take_at (take from xs ++ ys) (post_of from (to - from) xs) to
    (length-append (take from xs) ys ∙ omega (arith, length-take-le from xs (omega arith))))

module _ (l : Layout) (s : List ℕ) where
  -- no link yet
  pub ends-none : [] ≡ ends_in l s 0
  unfolding ends_in tabulate
  ends-none = refl

  -- one link more, whose record starts at an index
  pub ends-turn : (i at : ℕ) (xs : List ℕ) → take (2 * i) xs ≡ ends_in l s i → 2 * (i + 1) ≤ length xs → at ≡ link_start l i
      → take (2 * (i + 1)) (set (set xs (2 * i) (end_in s at 0)) (2 * i + 1) (end_in s at 1)) ≡ ends_in l s (i + 1)
  unfolding ends_in
  ends-turn i at xs e room q =
      let half : 2 * i / 2 ≡ i = omega arith in
      let rest : 2 * i % 2 ≡ 0 = omega arith in
      let half' : (2 * i + 1) / 2 ≡ i = omega arith in
      let rest' : (2 * i + 1) % 2 ≡ 1 = omega arith in
      let a = end_in s at 0 in
      let first = tabulate-turn _ xs (2 * i) a (omega arith) e (rw (half, rest, q) refl) in
      let inside : 2 * i + 1 < length (set xs (2 * i) a) = rw length-set (omega arith) in
      let second = tabulate-turn _ (set xs (2 * i) a) (2 * i + 1) (end_in s at 1) inside first (rw (half', rest', q)) in
      let all : 2 * i + 1 + 1 ≡ 2 * (i + 1) = omega arith in
      rw all at second

module _ (l : Layout) (s : List ℕ) (m : ℕ) where
  -- no ceiling yet
  pub costs-none : [] ≡ costs_in l s m 0
  unfolding costs_in
  costs-none = refl

  -- one ceiling more
  pub costs-turn : (i from : ℕ) (xs : List ℤ) {ys : List ℤ} → take from xs ≡ costs_in l s m i → from + m ≤ length xs → ys ≡ ceiling_in l s m i
      → take (from + m) (put_mid from (from + m - from) xs ys) ≡ costs_in l s m (i + 1)
  unfolding costs_in
  costs-turn i from xs {ys} e room q =
      let size : length ys ≡ from + m - from = omega (arith, ap (λ (zs : List ℤ). length zs) q, ceiling-length l s m i) in
      take-put-end from (from + m) xs ys (omega arith) room size ∙ rw add-one (ap₂ ◌++◌ e q)
