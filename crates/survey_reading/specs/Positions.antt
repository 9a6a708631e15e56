-- The positions of a survey's ceilings, counted from its columns before they are known to be few.
use Prim.Native.Nat.{ℕ, suc, ◌+◌, ◌*◌, ◌^◌, ◌≤◌, ◌<◌}
use Rattle.std.specs.Prelude.{Bool, false, ◌≡◌, ltb, ℤ, drop, replicate, take}
use mathlib.Core.List.{List, [], ◌∷◌, ◌++◌}
use Rattle.std.proofs.Math.Path.{refl, sym, ap, ap₂}
use Rattle.std.proofs.Common.{◌∙◌, le_trans, mul_assoc, mul-le-mul, mul-le-mul_right, suc-mul, drop-drop, pow-suc, arith, le-ltb}
use Rattle.std.proofs.Math.Nat.{mul_comm, pow-le-pow_left, pow-le-pow_right}
use Rattle.std.proofs.Math.Numerals.{add-one}
use Rattle.std.proofs.Math.ListN.{length, length-drop}
use Rattle.std.proofs.lemmas.List.{length-replicate}
use Rattle.std.proofs.Math.Seq.{length-take-le}
use Rattle.frontier.specs.Frontier.{product}
use Rattle.network.specs.Capacities.{ceilings_held, links_held}
use Rattle.network.specs.Limits.{max_plans}
use Rattle.network.specs.Network.{Network}
use Rattle.network.proofs.NetworkFine.{position-power}
use Rattle.network.specs.Refusals.{too_many_positions}
use Rattle.network.specs.Shaped.{net_of}
use Rattle.network.specs.Tabulate.{tabulate}
use Rattle.network.specs.Yard.{ceiling_part, cost_at, usable_at}
use Rattle.network.specs.declared.Shape.{Shape}
use Rattle.stations.specs.Stations.{Stations}
use Rattle.marking.specs.Values.{falling_to}
use Rattle.marking.specs.Gridded.{ceiling-values}
use Rattle.marking.specs.Parts.{ceiling_values, column_values}

-- A shape and columns whose positions can be counted: the ends are stations, there are costs of each link by each ceiling, and they are held.
pub record Countable (shape : Shape) (ends : List ℕ) (costs : List ℤ) : Type 0 where
  pub stations : Stations ends
  pub costs-are : length costs ≡ shape.p * shape.m
  pub links : shape.m ≤ links_held
  pub ceilings : shape.p ≤ ceilings_held

-- there are more positions than a survey may have, by the different values of its ceilings over the usable links
unfoldable pub too_many : Shape → List ℕ → List ℤ → Bool
too_many shape ends costs = ltb max_plans (product (ceiling_values (usable_at shape.rest ends) shape.p shape.m costs))

-- the links of a survey, to the power of its ceilings, are not too many
pub power-fits : (m p : ℕ) → m ≤ links_held → p ≤ ceilings_held → m ^ p ≤ links_held ^ ceilings_held
power-fits m p few below = le_trans (pow-le-pow_left few p) (pow-le-pow_right {n = links_held} (omega arith) below)

-- m, to a power below that of the ceilings held, times m
power_small : (m i : ℕ) → m ≤ links_held → i < ceilings_held → m ^ i * m ≤ links_held ^ ceilings_held
power_small m i few below =
    let one : m ^ i * m ≡ m ^ suc i = sym (pow-suc m i) in
    rw one (power-fits m (suc i) few below)

-- p ceilings of m links have at most m positions to the power of p
values-power : (rest : ℕ) (ends : List ℕ) (p m : ℕ) (costs : List ℤ) → product (ceiling_values (usable_at rest ends) p m costs) ≤ m ^ p
values-power rest ends p m costs =
    let ks : List ℕ = replicate p 0 in
    let net : Network = record { n = 0; p = p; k = ks; rest = rest; m = m; ends = ends; sums = []; costs = costs } in
    let size : length ks ≡ p = length-replicate p 0 in
    let most = position-power net in
    rw (ceiling-values net size) (rw size at most)

-- where that is no more than may be, there are not too many
pub power-few : (shape : Shape) (ends : List ℕ) (costs : List ℤ) → shape.m ^ shape.p ≤ max_plans → false ≡ too_many shape ends costs
unfolding too_many
power-few shape ends costs h = sym (le-ltb max_plans _ (le_trans (values-power shape.rest ends shape.p shape.m costs) h))

-- ---- counting them, ceiling by ceiling

module _ (u : ℕ → Bool) (m : ℕ) (costs : List ℤ) where
  -- no ceiling yet
  pub product-none : 1 ≡ product (ceiling_values u 0 m costs)
  unfolding ceiling_values tabulate
  product-none = refl

  -- one ceiling more
  product-more : (i : ℕ) → product (ceiling_values u (i + 1) m costs) ≡ product (ceiling_values u i m costs) * length (column_values u m costs i)
  unfolding ceiling_values tabulate
  product-more i = rw add-one (product-snoc (tabulate (column_values u m costs) i) (column_values u m costs i))
    where
      product-snoc : (ls : List (List ℤ)) (l : List ℤ) → product (ls ++ (l ∷ [])) ≡ product ls * length l
      product-snoc [] l = mul_comm (length l) 1
      product-snoc (k ∷ ls) l = ap (λ (n : ℕ). length k * n) (product-snoc ls l) ∙ sym (mul_assoc (length k) (product ls) (length l))

  -- the same by code that finds the different values of its column
  pub product-turn : (i c : ℕ) (column new : List ℤ) {total : ℕ} → total ≡ product (ceiling_values u i m costs) → column ≡ take m (drop (i * m) costs)
      → i * m + m ≤ length costs → length new ≡ m → (c ≤ length column) × (take c new ≡ falling_to u (cost_at column) (length column))
      → (c ≤ m) × (total * c ≡ product (ceiling_values u (i + 1) m costs))
  unfolding column_values
  product-turn i c column new {total} e f room size found =
      let long = length-take-le m (drop (i * m) costs) (omega (arith, length-drop (i * m) costs)) in
      let there : (c ≤ length (ceiling_part m costs i)) × (take c new ≡ falling_to u (cost_at (ceiling_part m costs i)) (length (ceiling_part m costs i))) =
      rw f at found in
      let few : c ≤ m = omega (arith, there.0) in
      let values = there.1 ∙ ap (falling_to u (cost_at (ceiling_part m costs i))) long in
      let count : c ≡ length (column_values u m costs i) = sym (length-take-le c new (omega arith)) ∙ ap length values in
      (few, ap₂ ◌*◌ e count ∙ sym (product-more i))

  -- the part of the next ceiling lies inside
  pub next-part : (p i : ℕ) → length costs ≡ p * m → i < p → i * m + m ≤ length costs
  next-part p i size h = omega (arith, mul-le-mul_right m h, suc-mul i m)

  -- and the costs behind it are those of the ceilings after it
  pub next-left : (i : ℕ) → drop m (drop (i * m) costs) ≡ drop ((i + 1) * m) costs
  next-left i = drop-drop m (i * m) costs ∙ ap (λ (k : ℕ). drop k costs) (omega (arith, suc-mul i m, add-one i))

-- a product of so many ceilings, times one more number of values, is not too large
pub product_small : (rest : ℕ) (ends : List ℕ) (m : ℕ) (costs : List ℤ) (i c : ℕ) {total : ℕ}
    → total ≡ product (ceiling_values (usable_at rest ends) i m costs) → m ≤ links_held → i < ceilings_held → c ≤ m → total * c ≤ links_held ^ ceilings_held
product_small rest ends m costs i c e few below h =
    le_trans (rw e (mul-le-mul (values-power rest ends i m costs) h)) (power_small m i few below)

-- they are too many where their number is
pub counted-many : (shape : Shape) (ends : List ℕ) (costs : List ℤ) {total : ℕ}
    → total ≡ product (ceiling_values (usable_at shape.rest ends) shape.p shape.m costs) → ltb max_plans total ≡ too_many shape ends costs
unfolding too_many
counted-many shape ends costs e = ap (ltb max_plans) e

-- they are the positions that number 19 is about
pub counted : (shape : Shape) (ends sums : List ℕ) (costs : List ℤ) → length (take shape.p shape.k) ≡ shape.p
    → too_many shape ends costs ≡ too_many_positions (net_of shape ends sums costs)
unfolding too_many too_many_positions
counted shape ends sums costs e = rw (ceiling-values (net_of shape ends sums costs) e)
