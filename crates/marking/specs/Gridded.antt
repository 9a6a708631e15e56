-- The grid of the ceilings: their values in parts of an array, and their positions as numbers.
use Rattle.std.specs.Prelude.{Bool, ◌≡◌, refl, ℕ, zero, suc, ◌+◌, ◌*◌, ◌≤◌, ◌<◌, ℤ, drop, get_or, length, take}
use mathlib.Core.List.{List, [], ◌∷◌}
use Rattle.std.proofs.Common.{sym, ap, ◌∙◌, subst, arith, length-drop, ext_get_or, get_or-take, length-take-le}
use Rattle.std.proofs.lemmas.List.{length-map}
use Rattle.order.proofs.Lists.{get_or_map}
use Rattle.frontier.specs.Frontier.{product}
use Rattle.frontier.specs.Places.{places}
use Rattle.planning.specs.Graph.{Graph, values_at, values_from}
use Rattle.network.specs.Capacities.{ceilings_held, links_held}
use Rattle.network.specs.Network.{Network}
use Rattle.network.specs.Shaped.{Plannable, net_of}
use Rattle.network.specs.declared.net.Net.{Net}
use Rattle.network.specs.declared.Shape.{Shape}
use Rattle.network.specs.Tabulate.{tabulate}
use Rattle.network.proofs.Tabulate.{tabulate-at, tabulate-length}
use Rattle.network.specs.Walk.{values}
use Rattle.network.specs.Yard.{graph, usable, usable_at}
use Rattle.marking.specs.Values.{falling-values}
use Rattle.marking.specs.Digits.{Few, Steps, digits-places, digits_by, sizes, total, total-product, weights, weights-length, weights-steps}
use Rattle.marking.specs.Sides.{counts, counts-with, sides_with, strides, strides-with}
use Rattle.marking.specs.declared.mark.Side.{Side}
use Rattle.marking.specs.Parts.{Filled, ceiling_values, column_values, parts-apart}
use Rattle.marking.specs.declared.grid.Grid.{Grid}

-- the network that the code hands on
abbrev pub network : Net → Network
network net = net_of net.shape net.ends.now net.sums.now net.costs.now

-- the array of a grid is as long as it is declared
abbrev pub Held : Grid → Type 0
Held grid = length grid.sides ≡ ceilings_held

-- The grid of the ceilings with these values, in an array with m places for each.
pub record Gridded (lists : List (List ℤ)) (m : ℕ) (array : List ℤ) (grid : Grid) : Type 0 where
  -- the values of a ceiling are at the front of its part
  pub part : (i : ℕ) → i < length lists → take (length (get_or lists i [])) (drop (i * m) array) ≡ get_or lists i []
  pub few : (i : ℕ) → i < length lists → length (get_or lists i []) ≤ m
  pub room : length array ≡ length lists * m
  -- the sides of the box of all positions, and the number of positions
  pub sides : take (length lists) grid.sides ≡ sides_with (weights (sizes lists)) (sizes lists)
  pub total : grid.total ≡ product lists
  -- it is held
  pub ceilings : length lists ≤ ceilings_held
  pub held : Held grid

-- what finding it asks: columns of p ceilings and m links, an array as long, and that they are held
pub record Griddable (p m : ℕ) (costs array : List ℤ) : Type 0 where
  pub costs-are : length costs ≡ p * m
  pub array-is : length array ≡ p * m
  pub links : m ≤ links_held
  pub ceilings : p ≤ ceilings_held

-- ---- the values of a network

module _ (G : Graph) where
  values_length : (i : ℕ) (js : List ℕ) → length (values_from G i js) ≡ length js
  values_length i [] = refl
  values_length i (k ∷ js) = ap suc (values_length (suc i) js)

  values-at : (j i : ℕ) (js : List ℕ) → i < length js → (d : List ℤ) → get_or (values_from G j js) i d ≡ values_at G (j + i)
  values-at j i [] h d = absurd (omega arith)
  values-at j zero (k ∷ js) h d = ap (values_at G) (omega arith)
  values-at j (suc i) (k ∷ js) h d = values-at (suc j) i js (omega arith) d ∙ ap (values_at G) (omega arith)

-- THE LAW: the different values of p columns over the usable links are the values that the walk of their network goes through
pub ceiling-values : (net : Network) → length net.k ≡ net.p → ceiling_values (usable net) net.p net.m net.costs ≡ values net
unfolding ceiling_values column_values
ceiling-values net e =
    let f = column_values (usable net) net.m net.costs in
    let G = graph net in
    let size = tabulate-length f net.p in
    ext_get_or [] (tabulate f net.p) (values net) (size ∙ sym e ∙ sym (values_length G 0 net.k))
    (λ i h. let inside : i < net.p = omega arith in
    tabulate-at f net.p i inside [] ∙ falling-values G i ∙ sym (values-at G 0 i net.k (omega arith) [] ∙ ap (values_at G) (omega arith)))

pub value-count : (net : Network) → length (values net) ≡ length net.k
value-count net = values_length (graph net) 0 net.k

-- the grid of a network that can be planned can be found, and is what `grid_of` finds
module _ {shape : Shape} {ends sums : List ℕ} {costs array : List ℤ} (plannable : Plannable shape ends sums costs) where
  pub griddable : length array ≡ length costs → Griddable shape.p shape.m costs array
  griddable e = record {
    costs-are = plannable.fine.cost-count;
    array-is = e ∙ plannable.fine.cost-count;
    links = plannable.fine.few-links;
    ceilings = plannable.fine.few-ceilings;
  }

  pub planned-grid : {grid : Grid} → Gridded (ceiling_values (usable_at shape.rest ends) shape.p shape.m costs) shape.m array grid
      → Gridded (values (net_of shape ends sums costs)) shape.m array grid
  planned-grid {grid} g =
      subst (λ (ls : List (List ℤ)). Gridded ls shape.m array grid) (ceiling-values (net_of shape ends sums costs) plannable.fine.rank-count) g

-- ---- the grid, when the values of p ceilings are filled in

module _ {u : ℕ → Bool} {p m : ℕ} {costs array : List ℤ} {counts : List ℕ} (f : Filled u m costs array counts p) (room : length array ≡ p * m)
    (held : length counts ≡ ceilings_held) (ceilings : p ≤ ceilings_held) where
  abbrev lists : List (List ℤ)
  lists = ceiling_values u p m costs

  lists_length : length lists ≡ p
  unfolding ceiling_values
  lists_length = tabulate-length (column_values u m costs) p

  list_at : (i : ℕ) → i < p → get_or lists i [] ≡ column_values u m costs i
  unfolding ceiling_values
  list_at i h = tabulate-at (column_values u m costs) p i h []

  -- a ceiling has as many values as are counted
  count_at : (i : ℕ) → i < p → length (get_or lists i []) ≡ get_or counts i 0
  count_at i h =
      let fits = parts-apart p i m (get_or counts i 0) h (f.few i h) in
      ap length (list_at i h ∙ sym (f.part i h))
      ∙ length-take-le (get_or counts i 0) (drop (i * m) array) (omega (arith, length-drop (i * m) array))

  counts-length : length (take p counts) ≡ p
  counts-length = length-take-le p counts (omega arith)

  counts-are : take p counts ≡ sizes lists
  counts-are =
      ext_get_or 0 (take p counts) (sizes lists) (counts-length ∙ sym (length-map lists length ∙ lists_length))
      (λ i h. let inside : i < p = omega (arith, counts-length) in
      get_or-take p counts i 0 inside ∙ sym (get_or_map length lists i [] 0 (omega (arith, lists_length)) ∙ count_at i inside))

  -- no product of the counts is too large
  pub filled-few : m ≤ links_held → Few (take p counts)
  filled-few links = record {
    ceilings = omega (arith, counts-length);
    each = λ i h. let inside : i < p = omega (arith, counts-length) in rw (get_or-take p counts i 0 inside) (omega (arith, f.few i inside));
  }

  pub filled-grid : {sides : List Side} {all : ℕ} → length sides ≡ ceilings_held → take p sides ≡ sides_with (weights (take p counts)) (take p counts)
      → all ≡ total (take p counts) → Gridded lists m array (record { sides = sides; total = all })
  filled-grid {sides} {all} same are is = record {
    part = λ i h. let inside : i < p = omega (arith, lists_length) in rw (count_at i inside) (f.part i inside ∙ sym (list_at i inside));
    few = λ i h. let inside : i < p = omega (arith, lists_length) in rw (count_at i inside) (f.few i inside);
    room = room ∙ ap (λ (k : ℕ). k * m) (sym lists_length);
    sides = ap (λ (k : ℕ). take k sides) lists_length ∙ are ∙ ap (λ (cs : List ℕ). sides_with (weights cs) cs) counts-are;
    total = is ∙ ap total counts-are ∙ total-product lists;
    ceilings = omega (arith, lists_length);
    held = same;
  }

-- ---- the sides of the grid, and the places of position n by them

module _ {lists : List (List ℤ)} {m : ℕ} {array : List ℤ} {grid : Grid} (g : Gridded lists m array grid) where
  pub grid-strides : strides (take (length lists) grid.sides) ≡ weights (sizes lists)
  grid-strides = rw g.sides (strides-with (weights (sizes lists)) (sizes lists) (weights-length (sizes lists)))

  pub grid-counts : counts (take (length lists) grid.sides) ≡ sizes lists
  grid-counts = rw g.sides (counts-with (weights (sizes lists)) (sizes lists) (weights-length (sizes lists)))

  module _ (n : ℕ) where
    pub grid-places : digits_by (strides (take (length lists) grid.sides)) n ≡ places lists n
    grid-places = rw grid-strides (digits-places lists n)

    pub grid-steps : n < product lists → Steps (strides (take (length lists) grid.sides))
    grid-steps h = rw grid-strides (weights-steps (sizes lists) (omega (arith, total-product lists)))
