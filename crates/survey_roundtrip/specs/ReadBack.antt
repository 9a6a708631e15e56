-- What the reader says of a survey that was written: the refusal of its figures, or none, and the figures.
use Rattle.std.specs.Prelude.{Bool, ◌≡◌, ℕ, zero, suc, ◌+◌, ◌-◌, ◌*◌, ◌%◌, ◌^◌, ◌≤◌, ◌<◌, length}
use Rattle.std.proofs.Math.Bool.{false}
use mathlib.Core.List.{List, [], ◌∷◌, map}
use Rattle.std.proofs.Common.{⊎_elim, sym, ap₂, ◌∙◌, add-zero, eq-or-lt_of_le, zero-add}
use Rattle.std.proofs.Math.Path.{refl, ap}
use Rattle.std.proofs.Math.Nat.{zero-div}
use native.Mathlib.Omega.{arith}
use Rattle.std.proofs.Math.Dec.{ltb}
use Rattle.std.proofs.Math.ListN.{get_or}
use borrow.Author.Tests.{le-ltb, ltb-false, ne_eqb}
use mir.Syntax.{w16, w32}
use mir.ValLaws.{to_z-of_z}
use Rattle.order.specs.Lists.{numbers_from}
use Rattle.network.specs.Limits.{max_links, max_stations}
use Rattle.network.specs.Bytes.{bits_of, signed}
use Rattle.network.specs.Survey.{cost_bits, link_count, link_start, narrow_slots}
use Rattle.network.proofs.Accepted.{or-false, records-fine}
use Rattle.network.specs.Checked.{first_refusal, refuse_if, ◌or_else◌}
use Rattle.network.proofs.CheckedLaws.{fine-both, refuse-fine}
use Rattle.network.specs.Layouts.{Roomy}
use Rattle.network.proofs.Layouts.{layout-roomy}
use Rattle.network.proofs.NetworkFine.{narrow-few}
use Rattle.network.specs.Refusals.{bad_ceilings, bad_count, bad_length, bad_ranks, bad_rest, checked_of, checked_with, link_checked, link_checked_at, links_checked}
use Rattle.network.specs.Refusals.{outside, records_checked, yard_checked}
use Rattle.network.proofs.Resting.{all-counted}
use Rattle.network.specs.Writing.{Figures, Link, figures_checked, figures_in, figures_of, link_figures_checked, link_in, links_figures_checked, no_link}
use Rattle.network.specs.Writing.{survey_in, yard_figures_checked}
use Rattle.network.specs.Checked.{Checked}
use Rattle.std.specs.Prelude.{Ok, Err}
use Rattle.network.specs.Checked.{no_refusal}
use Rattle.network.specs.declared.refusals.Rule.{Rule}
use Rattle.network.specs.declared.refusals.Rule.TheVariants.{BadCeilings, BadRanks, BadRest, BadStations, TooManyLinks, TooManyPositions, WrongLinkCount}
use Rattle.network.specs.declared.Layout.{Layout}
use Rattle.survey_roundtrip.specs.Layouts.{Writable, none-at-rest, written_link}
use Rattle.survey_roundtrip.specs.Columns.{first-agree}
use Rattle.survey_roundtrip.specs.Fields.{Fitting, Met, costs-are, link-held, survey-layout, survey-length, yard-held}

-- ---- the order of the refusals

-- a check that finds nothing wherever those before it find nothing does not show
no_more : (before : Checked) (bad : Bool) (rule : Rule) (place : ℕ) → (before ≡ no_refusal → bad ≡ false) → before or_else refuse_if bad rule place ≡ before
unfolding refuse_if ◌or_else◌
no_more (Err r) bad rule place e = refl
no_more (Ok u) bad rule place e = rw (e refl)

-- with no station at rest some station works
none_rest : (n : ℕ) → 1 ≤ n → bad_rest n 0 ≡ false
unfolding bad_rest
none_rest n h = rw (zero-div (2 ^ n), all-counted n) (ne_eqb n 0 (λ e. omega arith))

-- where nothing is refused, nothing is among the first checks
first_part : (f : ℕ → Checked) (m : ℕ) → first_refusal f m ≡ no_refusal → (i : ℕ) → i ≤ m → first_refusal f i ≡ no_refusal
unfolding first_refusal
first_part f zero e i h = let none : i ≡ 0 = omega arith in rw none
first_part f (suc m) e i h =
    ⊎_elim (λ (q : i ≡ suc m). rw q e) (λ (q : i < suc m). first_part f m (fine-both _ _ e).0 i (omega arith)) (eq-or-lt_of_le h)

-- a list is what a function gives for the numbers of its entries, where that is each entry
pub map-numbers : {A : Type 0} (f : ℕ → A) (d : A) (xs : List A) (k : ℕ) → ((i : ℕ) → i < length xs → f (k + i) ≡ get_or xs i d)
    → map f (numbers_from (length xs) k) ≡ xs
unfolding numbers_from
map-numbers f d [] k e = refl
map-numbers f d (x ∷ xs) k e =
    ap₂ (λ y ys. y ∷ ys) (ap f (sym (add-zero k)) ∙ e 0 (omega arith))
    (map-numbers f d xs (suc k) (λ i h. let step : suc k + i ≡ k + suc i = omega arith in ap f step ∙ e (suc i) (omega arith)))

module _ (l : Layout) (w : Writable l) (f : Figures) where
  abbrev m : ℕ
  m = length f.links

  abbrev s : List ℕ
  s = survey_in l f

  rest : length s - l.yard.size ≡ m * written_link
  rest = let e = survey-length l w f in omega arith

  right-length : bad_length l (length s) ≡ false
  unfolding bad_length
  right-length =
      let room : ltb (length s) l.yard.size ≡ false = le-ltb (length s) l.yard.size (omega (arith, survey-length l w f)) in
      let whole : m * written_link % written_link ≡ 0 = omega arith in
      rw (room, rest, w.link-size, whole)

  link-count : link_count l s ≡ m
  link-count = rw (rest, w.link-size) (omega arith)

  -- the checks of stations and of the number of links
  abbrev first : Checked
  first = refuse_if (outside f.yard.n 1 max_stations) BadStations 0 or_else refuse_if (ltb max_links m) TooManyLinks 0

  few-links : first ≡ no_refusal → m ≤ max_links
  few-links e = ltb-false max_links m (refuse-fine _ _ _ (fine-both _ _ e).1)

  some-station : first ≡ no_refusal → 1 ≤ f.yard.n
  some-station e = ltb-false _ _ (or-false _ _ (refuse-fine _ _ _ (fine-both _ _ e).0)).0

  -- no number of ceilings is too small
  right-ceilings : (p : ℕ) → bad_ceilings l p ≡ ltb narrow_slots p
  right-ceilings p = rw (w.fewest, w.slots, le-ltb p 0 (omega arith))

  yard-agrees : yard_checked s l m ≡ yard_figures_checked f.yard m
  unfolding yard_checked yard_figures_checked refuse_if ◌or_else◌
  yard-agrees =
      let held = yard-held l w f in
      let y = f.yard in
      rw (held.marked, held.stations, held.ceilings, held.ranks, none-at-rest l w s, all-counted y.n, right-ceilings y.p)
      (ap (λ (c : Checked). c or_else refuse_if (ltb narrow_slots y.p) BadCeilings 0 or_else refuse_if (bad_ranks y.n y.p (y.k1 ∷ y.k2 ∷ [])) BadRanks 0)
      (ap (λ (c : Checked). c or_else refuse_if (bad_rest y.n 0) BadRest 0) (no_more first (bad_count s l m) WrongLinkCount 0 (λ e. held.count (few-links e)))
      ∙ no_more first (bad_rest y.n 0) BadRest 0 (λ e. none_rest y.n (some-station e))))

  -- the bytes of link record i get what its figures get
  link-agrees : (i : ℕ) → i < m → Fitting (get_or f.links i no_link)
      → link_checked_at s l i ≡ link_figures_checked f.yard (get_or f.links i no_link) (i + 1)
  unfolding link_checked link_figures_checked refuse_if ◌or_else◌ signed bits_of
  link-agrees i h fits =
      let x : Link = get_or f.links i no_link in
      let yard = yard-held l w f in
      let held = link-held l w f i h fits in
      let costs = ap (λ (k : ℕ). cost_bits k s (link_start l i)) w.slots ∙ costs-are held in
      rw (held.marked, yard.stations, yard.ceilings, held.first, held.second, costs) (rw (held.sum, to_z-of_z w32 x.sum fits.sum))

  module _ (met : yard_figures_checked f.yard m ≡ no_refusal → Met f) where
    -- the reader's verdict on the links, once the yard is not refused
    links-agree : yard_figures_checked f.yard m ≡ no_refusal → links_checked s l m ≡ links_figures_checked f.yard f.links m
    links-agree yard = first-agree _ _ m (λ i h so_far. link-agrees i h ((met yard).each i h so_far))

    -- the reader's verdict on the records is that on the figures
    records-agree : records_checked l s ≡ figures_checked f
    unfolding records_checked figures_checked refuse_if ◌or_else◌
    records-agree = rw (right-length, link-count, yard-agrees) (go (yard_figures_checked f.yard m) links-agree)
      where
        go : (c : Checked) → (c ≡ no_refusal → links_checked s l m ≡ links_figures_checked f.yard f.links m)
            → c or_else links_checked s l m ≡ c or_else links_figures_checked f.yard f.links m
        go (Ok u) e = e refl
        go (Err r) e = refl

    -- and so is that on the survey: two ceilings never make too many positions
    pub reader-agrees : checked_of s ≡ figures_checked f
    unfolding checked_with
    reader-agrees =
        let layout = survey-layout l w f in
        let roomy : Roomy l = rw (← layout) (layout-roomy s) in
        rw layout (no_more (records_checked l s) _ TooManyPositions 0 (λ e. narrow-few s l (records-fine s l roomy e) w.slots) ∙ records-agree)

  module _ (fits : (i : ℕ) → i < m → Fitting (get_or f.links i no_link)) where
    -- the figures of link record i are read back
    link-read : (i : ℕ) → i < m → link_in s (link_start l i) ≡ get_or f.links i no_link
    unfolding signed bits_of
    link-read i h =
        let x : Link = get_or f.links i no_link in
        let fit = fits i h in
        let held = link-held l w f i h fit in
        λ k.
        record {
          first = held.first k;
          second = held.second k;
          sum = (ap (signed w32) held.sum ∙ to_z-of_z w32 x.sum fit.sum) k;
          c1 = (ap (signed w16) held.c1 ∙ to_z-of_z w16 x.c1 fit.c1) k;
          c2 = (ap (signed w16) held.c2 ∙ to_z-of_z w16 x.c2 fit.c2) k;
        }

    -- so are all figures
    pub figures-read : figures_of s ≡ f
    unfolding figures_in
    figures-read =
        let yard = yard-held l w f in
        let links : map (λ i. link_in s (link_start l i)) (numbers_from (link_count l s) 0) ≡ f.links =
        ap (λ (n : ℕ). map (λ i. link_in s (link_start l i)) (numbers_from n 0)) link-count
        ∙ map-numbers (λ i. link_in s (link_start l i)) no_link f.links 0 (λ i h. rw (zero-add i) (link-read i h)) in
        ap (λ (k : Layout). figures_in k s) (survey-layout l w f)
        ∙ (λ k.
        record {
          yard = record { n = yard.stations k; p = yard.ceilings k; k1 = get_or (yard.ranks k) 0 0; k2 = get_or (yard.ranks k) 1 0 };
          links = links k;
        })

  -- where nothing is refused, all links fit
  pub legal-fit : figures_checked f ≡ no_refusal → (yard_figures_checked f.yard m ≡ no_refusal → Met f) → (i : ℕ) → i < m → Fitting (get_or f.links i no_link)
  unfolding figures_checked
  legal-fit e met i h =
      let both = fine-both _ _ e in
      (met both.0).each i h (first_part _ m both.1 i (omega arith))
