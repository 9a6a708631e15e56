-- Any figures can be handed in: the columns of their links say them. So a survey that was read can be written from columns.
use Rattle.std.specs.Prelude.{List, [], ◌∷◌, map, ◌≡◌, refl, ℕ, zero, suc, ◌+◌, ◌*◌, ◌<◌, pos, get_or, length}
use Rattle.std.proofs.Common.{ap, ◌∙◌, zero-add, arith}
use Rattle.order.specs.Lists.{numbers_from}
use Rattle.network.specs.Writing.{Figures, Link, cost_column, end_column, figures_from, link_from, no_link, no_station, sum_column}
use Rattle.survey_roundtrip.specs.Columns.{link-whole}
use Rattle.survey_roundtrip.specs.ReadBack.{map-numbers}

-- as many sum costs as links
sums-many : (xs : List Link) → length (sum_column xs) ≡ length xs
sums-many [] = refl
sums-many (x ∷ xs) = ap suc (sums-many xs)

-- two ceiling costs for each
costs-many : (xs : List Link) → length (cost_column xs) ≡ 2 * length xs
costs-many [] = refl
costs-many (x ∷ xs) = let e = costs-many xs in omega arith

-- link i of the columns of links is link i
column-link : (xs : List Link) (i : ℕ) → i < length xs → link_from 0 (end_column xs) (sum_column xs) (cost_column xs) i ≡ get_or xs i no_link
column-link [] i h = absurd (omega arith)
column-link (x ∷ xs) zero h = refl
column-link (x ∷ xs) (suc i) h = step ∙ column-link xs i (omega arith)
  where
    twice : 2 * suc i ≡ suc (suc (2 * i))
    twice = omega arith

    after : 2 * suc i + 1 ≡ suc (suc (2 * i + 1))
    after = omega arith

    step : link_from 0 (end_column (x ∷ xs)) (sum_column (x ∷ xs)) (cost_column (x ∷ xs)) (suc i) ≡ link_from 0 (end_column xs) (sum_column xs) (cost_column xs) i
    step =
        λ k.
        record {
          first = get_or (end_column (x ∷ xs)) (twice k) no_station;
          second = get_or (end_column (x ∷ xs)) (after k) no_station;
          sum = get_or (sum_column xs) i (pos 0);
          c1 = get_or (cost_column (x ∷ xs)) (twice k) (pos 0);
          c2 = get_or (cost_column (x ∷ xs)) (after k) (pos 0);
        }

-- THE THEOREM: the columns of the links of any figures say these figures
pub columns-say : (f : Figures) → figures_from f.yard (end_column f.links) (sum_column f.links) (cost_column f.links) ≡ f
unfolding figures_from
columns-say f =
    let xs : List Link = f.links in
    let link : ℕ → Link = link_from f.yard.p (end_column xs) (sum_column xs) (cost_column xs) in
    let each : (i : ℕ) → i < length xs → link i ≡ get_or xs i no_link =
    λ i h. link-whole f.yard.p (end_column xs) (sum_column xs) (cost_column xs) i (omega (arith, costs-many xs)) ∙ column-link xs i h in
    let links = ap (λ (n : ℕ). map link (numbers_from n 0)) (sums-many xs) ∙ map-numbers link no_link xs 0 (λ i h. rw (zero-add i) (each i h)) in
    λ k. record { yard = f.yard; links = links k }
