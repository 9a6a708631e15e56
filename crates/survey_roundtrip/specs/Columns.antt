-- Figures that are handed in as columns: their links one by one, and their rules.
use Rattle.std.specs.Prelude.{false, ◌≡◌, refl, ℕ, zero, suc, ◌+◌, ◌*◌, ◌≤◌, ◌<◌, leb, ltb, ℤ, pos, take}
use Rattle.std.proofs.Math.Bool.{and-false}
use mathlib.Core.List.{List, ◌∷◌, map}
use Rattle.std.proofs.Common.{⊎_elim, ap₂, ◌∙◌, eq-or-lt_of_le, arith}
use Rattle.std.proofs.Math.Path.{sym, ap, subst}
use Rattle.std.proofs.Math.Nat.{zero-add}
use borrow.Author.Tests.{lt-leb, ltb-false, ltb-true}
use Rattle.std.proofs.Math.ListN.{get_or, length, length-map}
use Rattle.std.proofs.Math.Seq.{get_or-take, length-take-le}
use Rattle.order.specs.Lists.{numbers_from}
use Rattle.order.proofs.Lists.{get_or_map}
use Rattle.order.specs.Test.{by-test}
use Rattle.order.proofs.Sorted.{number_at, numbers-length}
use Rattle.network.specs.Limits.{max_links}
use Rattle.network.specs.Column.{column}
use Rattle.network.proofs.Column.{column-at, column-length}
use Rattle.network.specs.Checked.{first_refusal, ◌or_else◌}
use Rattle.network.proofs.CheckedLaws.{first_found, first_more}
use Rattle.network.specs.Writing.{Link, figures_from, lacks_cost, link_figures_checked, link_from, links_figures_checked, no_link, no_station, sum_from}
use Rattle.network.specs.Checked.{Checked}
use Rattle.std.specs.Prelude.{Ok, Err}
use Rattle.network.specs.Checked.{no_refusal}
use Rattle.network.specs.declared.refusals.Refusal.{Refusal}
use Rattle.network.specs.declared.YardFigures.{YardFigures}
use Rattle.survey_roundtrip.specs.Fields.{Fitting, Met}

-- the first refusal of checks that agree up to it
pub first-agree : (f g : ℕ → Checked) (m : ℕ) → ((i : ℕ) → i < m → first_refusal g i ≡ no_refusal → f i ≡ g i) → first_refusal f m ≡ first_refusal g m
unfolding first_refusal ◌or_else◌
first-agree f g zero e = refl
first-agree f g (suc m) e =
    ap (λ (c : Checked). c or_else f m) (first-agree f g m (λ i h. e i (omega arith))) ∙ next (first_refusal g m) (e m (omega arith))
  where
    next : (c : Checked) → (c ≡ no_refusal → f m ≡ g m) → c or_else f m ≡ c or_else g m
    next (Ok u) q = q refl
    next (Err r) q = refl

-- a refusal is not nothing
pub refused-fine : {r : Refusal} {c : Checked} → c ≡ Err r → c ≡ no_refusal → ⊥
refused-fine e q = let z : ◌≡◌ {A = ℕ} 0 1 = cc in omega arith

-- columns with both ends and both ceiling costs for each link, and no more links than a survey may have
pub record Full (ends : List ℕ) (sums costs : List ℤ) : Type 0 where
  pub all-ends : 2 * length sums ≤ length ends
  pub all-costs : 2 * length sums ≤ length costs
  pub few : length sums ≤ max_links

-- a link whose two ceiling costs are handed in lacks none
none-lacks : (p given i : ℕ) → 2 * i + 2 ≤ given → lacks_cost p given i ≡ false
none-lacks p given i h =
    let first : leb given (2 * i) ≡ false = lt-leb given (2 * i) (omega arith) in
    let second : leb given (2 * i + 1) ≡ false = lt-leb given (2 * i + 1) (omega arith) in
    rw (first, second, and-false (ltb 0 p), and-false (ltb 1 p))

-- so it is the same link for any number of ceilings
pub link-whole : (p : ℕ) (ends : List ℕ) (sums costs : List ℤ) (i : ℕ) → 2 * i + 2 ≤ length costs → link_from p ends sums costs i ≡ link_from 0 ends sums costs i
link-whole p ends sums costs i h = rw (none-lacks p (length costs) i h)

module _ (y : YardFigures) (ends : List ℕ) (sums costs : List ℤ) where
  -- link i
  abbrev link_of : ℕ → Link
  link_of = link_from y.p ends sums costs

  -- 7 and 8 of the first m links
  unfoldable pub columns_checked : ℕ → Checked
  columns_checked m = first_refusal (λ i. link_figures_checked y (link_of i) (i + 1)) m

  abbrev links : List Link
  links = (figures_from y ends sums costs).links

  -- there are as many links as sum costs
  pub link-many : length links ≡ length sums
  unfolding figures_from
  link-many = length-map (numbers_from (length sums) 0) link_of ∙ numbers-length (length sums) 0

  -- link i
  pub link_at : (i : ℕ) → i < length sums → get_or links i no_link ≡ link_of i
  unfolding figures_from
  link_at i h =
      let size = numbers-length (length sums) 0 in
      get_or_map link_of (numbers_from (length sums) 0) i 0 no_link (omega arith)
      ∙ ap link_of (number_at (length sums) 0 i h ∙ zero-add i)

  -- the rules of the first m links are those of the columns
  links-to : (m : ℕ) → m ≤ length sums → links_figures_checked y links m ≡ columns_checked m
  unfolding columns_checked
  links-to m h = first-agree _ _ m (λ i less e. ap (λ (x : Link). link_figures_checked y x (i + 1)) (link_at i (omega arith)))

  -- so are those of all links
  pub links-checked : links_figures_checked y links (length links) ≡ columns_checked (length sums)
  links-checked = ap (links_figures_checked y links) link-many ∙ links-to (length sums) (omega arith)

  -- links of the columns that fit are links of the figures that fit
  met : ((i : ℕ) → i < length sums → columns_checked i ≡ no_refusal → Fitting (link_of i)) → Met (figures_from y ends sums costs)
  unfolding figures_from
  met fits =
      record {
        each = λ i h e.
            let less : i < length sums = omega (arith, link-many) in
            rw (link_at i less) (fits i less (sym (links-to i (omega arith)) ∙ e));
      }

  module _ (full : Full ends sums costs) where
    -- a link of full columns lacks no cost
    pub whole : (i : ℕ) → i < length sums → link_of i ≡ link_from 0 ends sums costs i
    whole i h = link-whole y.p ends sums costs i (omega (arith, full.all-costs))

    -- where all links fit
    pub met_all : ((i : ℕ) → i < length sums → Fitting (link_from 0 ends sums costs i)) → Met (figures_from y ends sums costs)
    met_all fits = met (λ i h e. subst Fitting (sym (whole i h)) (fits i h))

    -- where link k is refused, and the links up to it fit
    pub met-found : (k : ℕ) (r : Refusal) → columns_checked k ≡ no_refusal → link_figures_checked y (link_of k) (k + 1) ≡ Err r
        → ((i : ℕ) → i < k + 1 → Fitting (link_from 0 ends sums costs i)) → Met (figures_from y ends sums costs)
    unfolding columns_checked
    met-found k r so_far found fits =
        met (λ i h e.
        by-test (ltb k i)
        (λ q. absurd (refused-fine (first_found _ k r so_far found i (ltb-true k i q)) e))
        (λ q. subst Fitting (sym (whole i h)) (fits i (omega (arith, ltb-false k i q)))))

-- ---- a loop over the links

module _ (ends : List ℕ) (sums costs : List ℤ) (full : Full ends sums costs) (i : ℕ) (h : i < length sums) (fits : Fitting (link_from 0 ends sums costs i)) where
  -- one link more that fits
  pub fits_more : ((j : ℕ) → j < i → Fitting (link_from 0 ends sums costs j)) → (j : ℕ) → j < i + 1 → Fitting (link_from 0 ends sums costs j)
  fits_more before j less = ⊎_elim (λ (e : j ≡ i). rw e fits) (λ (l : j < i). before j l) (eq-or-lt_of_le (omega arith))

  module _ (y : YardFigures) {c : Checked} (q : c ≡ link_figures_checked y (link_from 0 ends sums costs i) (i + 1))
      (so_far : columns_checked y ends sums costs i ≡ no_refusal) where
    checked : c ≡ link_figures_checked y (link_from y.p ends sums costs i) (i + 1)
    checked = q ∙ ap (λ (x : Link). link_figures_checked y x (i + 1)) (sym (whole y ends sums costs full i h))

    -- a link more that is not refused
    pub columns-more : c ≡ no_refusal → columns_checked y ends sums costs (i + 1) ≡ no_refusal
    unfolding columns_checked
    columns-more e = first_more _ i so_far (sym checked ∙ e)

    -- the first that is
    pub columns-found : (r : Refusal) → c ≡ Err r → ((j : ℕ) → j < i → Fitting (link_from 0 ends sums costs j))
        → (c ≡ columns_checked y ends sums costs (length sums)) × Met (figures_from y ends sums costs)
    unfolding columns_checked
    columns-found r e before = (
      e ∙ sym (first_found _ i r so_far (sym checked ∙ e) (length sums) h),
      met-found y ends sums costs full i r so_far (sym checked ∙ e) (fits_more before),
    )

-- ---- columns made full

-- the first q ends, with those that are not handed in; no station after them
unfoldable pub ends_to : List ℕ → ℕ → List ℕ
ends_to ends q = column (2 * max_links) no_station (λ k. get_or ends k no_station) q

-- the first q ceiling costs, with those that are not handed in; 0 after them
unfoldable pub costs_to : List ℤ → ℕ → List ℤ
costs_to costs q = column (2 * max_links) (pos 0) (λ k. get_or costs k (pos 0)) q

-- the first q sum costs beside a column of `given` ceiling costs, in a yard with p ceilings; 0 after them
unfoldable pub sums_to : ℕ → List ℤ → ℕ → ℕ → List ℤ
sums_to p sums given q = column max_links (pos 0) (sum_from p sums given) q

-- ends, ceiling costs and sum costs of as many links as a survey may have
abbrev pub full_ends : List ℕ → List ℕ
full_ends ends = ends_to ends (2 * max_links)

abbrev pub full_costs : List ℤ → List ℤ
full_costs costs = costs_to costs (2 * max_links)

abbrev pub full_sums : ℕ → List ℤ → ℕ → List ℤ
full_sums p sums given = sums_to p sums given max_links

-- functions that agree on numbers
pub map-agree : {A : Type 0} (f g : ℕ → A) (n k : ℕ) → ((i : ℕ) → i < k + n → f i ≡ g i) → map f (numbers_from n k) ≡ map g (numbers_from n k)
unfolding numbers_from
map-agree f g zero k e = refl
map-agree f g (suc n) k e = ap₂ (λ x xs. x ∷ xs) (e k (omega arith)) (map-agree f g n (suc k) (λ i h. e i (omega arith)))

module _ (y : YardFigures) (ends : List ℕ) (sums costs : List ℤ) (few : length sums ≤ max_links) where
  -- the sum costs of the links that there are
  abbrev pub sums_of : List ℤ
  sums_of = take (length sums) (full_sums y.p sums (length costs))

  as_many : length sums_of ≡ length sums
  unfolding sums_to
  as_many =
      let all = column-length max_links (pos 0) (sum_from y.p sums (length costs)) max_links in
      length-take-le (length sums) (full_sums y.p sums (length costs)) (omega arith)

  costs-many : length (full_costs costs) ≡ 2 * max_links
  unfolding costs_to
  costs-many = column-length (2 * max_links) (pos 0) (λ k. get_or costs k (pos 0)) (2 * max_links)

  -- they are full
  pub made-full : Full (full_ends ends) sums_of (full_costs costs)
  unfolding ends_to
  made-full =
      record {
        all-ends = rw (column-length (2 * max_links) no_station (λ k. get_or ends k no_station) (2 * max_links)) (omega (arith, as_many));
        all-costs = omega (arith, as_many, costs-many);
        few = omega (arith, as_many);
      }

  end_same : (q : ℕ) → q < 2 * max_links → get_or (full_ends ends) q no_station ≡ get_or ends q no_station
  unfolding ends_to
  end_same q h = column-at (2 * max_links) no_station (λ k. get_or ends k no_station) (2 * max_links) q h (omega arith) no_station

  cost-same : (q : ℕ) → q < 2 * max_links → get_or (full_costs costs) q (pos 0) ≡ get_or costs q (pos 0)
  unfolding costs_to
  cost-same q h = column-at (2 * max_links) (pos 0) (λ k. get_or costs k (pos 0)) (2 * max_links) q h (omega arith) (pos 0)

  sum_same : (i : ℕ) → i < length sums → get_or sums_of i (pos 0) ≡ sum_from y.p sums (length costs) i
  unfolding sums_to
  sum_same i h =
      get_or-take (length sums) (full_sums y.p sums (length costs)) i (pos 0) h
      ∙ column-at max_links (pos 0) (sum_from y.p sums (length costs)) max_links i (omega arith) (omega arith) (pos 0)

  link-same : (i : ℕ) → i < length sums → link_from y.p (full_ends ends) sums_of (full_costs costs) i ≡ link_from y.p ends sums costs i
  link-same i h =
      link-whole y.p (full_ends ends) sums_of (full_costs costs) i (omega (arith, costs-many))
      ∙ (λ k.
      record {
        first = end_same (2 * i) (omega arith) k;
        second = end_same (2 * i + 1) (omega arith) k;
        sum = sum_same i h k;
        c1 = cost-same (2 * i) (omega arith) k;
        c2 = cost-same (2 * i + 1) (omega arith) k;
      })

  -- and say the same figures
  pub full-figures : figures_from y (full_ends ends) sums_of (full_costs costs) ≡ figures_from y ends sums costs
  unfolding figures_from
  full-figures =
      let filled = link_from y.p (full_ends ends) sums_of (full_costs costs) in
      let links =
      ap (λ (n : ℕ). map filled (numbers_from n 0)) as_many
      ∙ map-agree filled (link_from y.p ends sums costs) (length sums) 0 (λ i h. link-same i (omega arith)) in
      λ k. record { yard = y; links = links k }
