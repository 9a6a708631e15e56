-- The two orders of costs: entry by entry, and by the first entry that differs.
use Rattle.std.specs.Prelude.{◌≡◌, Bool, true, false, ◌&&◌, List, [], ◌∷◌, ℤ, length, Some}
use Rattle.std.proofs.Math.Path.{refl, ap}
use Rattle.std.proofs.Common.{sym, arith}
use Rattle.std.specs.Cmp.Lexicographic.{slice_partial_cmp}
use Rattle.std.specs.Int.Signed.{le_z}
use Rattle.std.specs.List.{list_all, zip}
use Rattle.std.specs.Ordering.{int_cmp, is_le, is_some_and}
use Rattle.std.proofs.lemmas.Cmp.{same_from_slice_cmp_tested}
use Rattle.std.proofs.lemmas.Int.{ints}
use Rattle.order.specs.Order.{dictionary_le, orderℤ, tie_break}
use Rattle.order.proofs.Order.{dictionary-less}
use Rattle.frontier.specs.Dominance.{le_all}
use Rattle.frontier.proofs.Dominance.{le_all→dictionary_le}
use Rattle.network.specs.Calls.{cost_values}
use Rattle.network.specs.declared.Costs.{Costs}

-- no entry of v is above that of w
unfoldable pub at_most : Costs → Costs → Bool
at_most v w = le_all orderℤ (cost_values v) (cost_values w)

-- v stands before w in dictionary order, or is the same
unfoldable pub in_order : Costs → Costs → Bool
in_order v w = dictionary_le orderℤ (cost_values v) (cost_values w)

-- ---- entries compared side by side

-- "at most" of each pair of entries
pub all-pairs : (a b : List ℤ) → length a ≡ length b → list_all (λ p. le_z p.0 p.1) (zip a b) ≡ le_all orderℤ a b
all-pairs [] [] e = refl
all-pairs [] (y ∷ b) e = absurd (omega arith)
all-pairs (x ∷ a) [] e = absurd (omega arith)
all-pairs (x ∷ a) (y ∷ b) e = ap (λ t. le_z x y && t) (all-pairs a b (omega arith))

-- dictionary order is the order of slices
pub by-slices : (a b : List ℤ) (r : Bool) → r ≡ is_some_and is_le (slice_partial_cmp (λ x y. Some (int_cmp x y)) a b) → r ≡ dictionary_le orderℤ a b
by-slices =
    same_from_slice_cmp_tested int_cmp is_le (dictionary_le orderℤ) refl (λ _ _. refl) (λ _ _. refl)
    (λ x y xs ys o h. grind (arith, ints))

-- ---- costs by their sums, and by the orders of their ceiling costs

-- "at most"
pub at-most-by : (v w : Costs) {s t : Bool} → s ≡ le_z v.sum w.sum → t ≡ le_all orderℤ v.y w.y → s && t ≡ at_most v w
unfolding at_most
at-most-by v w d e = λ i. d i && e i

-- dictionary order, where the sum of w is no higher
pub in-order-by : (v w : Costs) {s t : Bool} → le_z w.sum v.sum ≡ true → s ≡ le_z v.sum w.sum → t ≡ dictionary_le orderℤ v.y w.y
    → s && t ≡ in_order v w
unfolding in_order
in-order-by v w e f g = λ i. tie_break (f i) (sym e i) (g i)

-- costs with the lower sum stand before the others
pub in-order-lower : (v w : Costs) → le_z w.sum v.sum ≡ false → in_order v w ≡ true
unfolding in_order
in-order-lower v w h = dictionary-less orderℤ v.sum w.sum v.y w.y h

-- and those with the higher one do not
pub in-order-higher : (v w : Costs) → le_z v.sum w.sum ≡ false → in_order v w ≡ false
unfolding in_order
in-order-higher v w h = rw h

-- costs that are at most others stand before them
pub at-most-before : (v w : Costs) → at_most v w ≡ true → in_order v w ≡ true
unfolding at_most in_order
at-most-before v w h = le_all→dictionary_le orderℤ (cost_values v) (cost_values w) h
