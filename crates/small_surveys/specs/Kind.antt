-- The small surveys are all of their kind, each once and in order.
use Rattle.std.specs.Prelude.{Bool, true, not, ◌&&◌, ◌||◌, ◌≡◌, ℕ, zero, suc, ◌+◌, ◌*◌, ◌<◌, eqb, leb, ltb, ℤ, pos, length, replicate}
use Rattle.std.proofs.Math.Bool.{false}
use mathlib.Core.List.Memᴰ
use mathlib.Core.List.Memᴰ.{head as here}
use mathlib.Core.List.Memᴰ.{tail as there}
use mathlib.Core.List.{List, [], ◌∷◌, map}
use Rattle.std.proofs.Common.{⊎_elim, inl, subst, ◌∙◌, eq-or-lt_of_le, arith, SFits, to_z}
use Rattle.std.proofs.Math.Path.{refl, sym, ap}
use borrow.Author.Tests.{eqb-true, leb-false, leb-true, ltb-true, not-false, not-true}
use Rattle.std.proofs.Math.ListN.{get_or}
use Rattle.std.specs.Int.{Width, w16, w32}
use mir.ValLaws.{sfits_le, to_z-of_z}
use Rattle.order.specs.Lists.{◌∈◌, all, numbers_from}
use Rattle.order.proofs.Lists.{all-mem, get_or-mem, mem-get_or}
use Rattle.order.specs.Order.{Less, dictionary}
use Rattle.order.proofs.Order.{less-irrefl}
use Rattle.order.proofs.Perm.{pairwise-at}
use Rattle.order.specs.Test.{by-test, left}
use Rattle.order.proofs.Test.{right}
use Rattle.frontier.proofs.Ordered.{each-picks, picks-each, positions-rise}
use Rattle.frontier.proofs.Walk.{positions-length, positions-mem}
use Rattle.network.specs.Bytes.{bits_of, byte_at}
use Rattle.network.specs.Survey.{layout_of, plain, row_where}
use Rattle.network.specs.PlanList.{join}
use Rattle.network.proofs.Accepted.{or-false}
use Rattle.network.specs.Checked.{refuse_if, ◌or_else◌}
use Rattle.network.proofs.CheckedLaws.{fine-both, first_fine, first-none, refuse-fine}
use Rattle.network.specs.Refusals.{absent_costs, bad_costs, bad_ends, bad_ranks, bad_sum, checked_of}
use Rattle.network.specs.Writing.{Figures, Link, figures_checked, figures_of, kind_of, layout_for, link_bytes, link_figures_checked, no_link}
use Rattle.network.specs.Writing.{survey_in, survey_of, unknown_kind, yard_bytes, yard_figures_checked}
use Rattle.network.specs.WritingPromise.{OfBytes, Says}
use Rattle.network.specs.SmallSurveys.{choices, links_in_order, small_bytes, small_figures, small_link_count, small_survey, small_count, small_yard}
use Rattle.network.specs.SmallPromise.{ComesBefore, NumberOf, OfSmallKind, ZeroOrOne, choice_of, choice_order}
use Rattle.network.specs.Checked.{no_refusal}
use Rattle.network.specs.declared.Layout.{Layout}
use Rattle.survey_roundtrip.specs.Fields.{Fitting, survey-layout, survey-length}
use Rattle.survey_roundtrip.specs.Former.{figures-survey}
use Rattle.survey_roundtrip.specs.Layouts.{Writable, layout-known, writable-for}
use Rattle.survey_roundtrip.specs.Legal.{figures-fit, figures-legal}
use Rattle.survey_roundtrip.specs.ReadBack.{figures-read, reader-agrees}
use Rattle.small_surveys.specs.Choices.{choice-absent, choice-small, choices-rise, small-choice}
use Rattle.small_surveys.specs.Numbered.{links-many, links-picks, share-all}

-- ---- a number's survey is of the kind

-- 7 and 8 let the link pass in a small yard, as a test
abbrev is_legal : Link → Bool
is_legal x =
    not (bad_ends small_yard.n x.first x.second)
    && not (bad_costs small_yard.p x.sum (bits_of w16 x.c1 ∷ bits_of w16 x.c2 ∷ []))

all-legal : all is_legal choices ≡ true
unfolding choices numbers_from bad_sum absent_costs bits_of
all-legal = refl

choice-legal : (x : Link) → x ∈ choices → (place : ℕ) → link_figures_checked small_yard x place ≡ no_refusal
unfolding link_figures_checked refuse_if ◌or_else◌
choice-legal x m place =
    let bits : List ℕ = bits_of w16 x.c1 ∷ bits_of w16 x.c2 ∷ [] in
    let e = all-mem is_legal choices all-legal x m in
    let ends : bad_ends 3 x.first x.second ≡ false = not-true _ (left (not (bad_ends 3 x.first x.second)) _ e) in
    let costs : bad_costs 1 x.sum bits ≡ false = not-true _ (right (not (bad_ends 3 x.first x.second)) _ e) in
    rw (ends, costs)

-- its figures fit their bytes
small-fits : (w : Width) → SFits w (pos 1) → (c : ℤ) → ZeroOrOne c → SFits w c
small-fits w fit c z = ⊎_elim (λ (e : c ≡ pos 0). rw e (sfits_le {y = pos 0} {z = pos 1} (omega arith) fit)) (λ (e : c ≡ pos 1). rw e fit) z

choice-fits : (x : Link) → x ∈ choices → Fitting x
choice-fits x m =
    let small = choice-small x m in
    let one : SFits w16 (pos 1) = record { sfits = omega arith } in
    record {
      sum = small-fits w32 (record { sfits = omega arith }) x.sum small.sum;
      c1 = small-fits w16 one x.c1 small.c1;
      c2 = small-fits w16 one x.c2 (inl (choice-absent x m));
    }

-- each entry of a list whose members are bytes is a byte
members-bytes : (s : List ℕ) → ((b : ℕ) → b ∈ s → b < 256) → OfBytes s
members-bytes s each = record { each = go s each }
  where
    go : (s : List ℕ) → ((b : ℕ) → b ∈ s → b < 256) → (i : ℕ) → byte_at s i < 256
    go [] h i = omega arith
    go (x ∷ s) h zero = h x (here refl)
    go (x ∷ s) h (suc i) = go s (λ b m. h b (there m)) i

-- a number is a byte, as a test
is_byte : ℕ → Bool
is_byte b = ltb b 256

-- the bytes of a yard record and of a choice's record
yard-bytes : (m : ℕ) → all is_byte (yard_bytes plain small_yard m) ≡ true
unfolding yard_bytes is_byte
yard-bytes m = refl

all-bytes : all (λ x. all is_byte (link_bytes plain.link.mark x)) choices ≡ true
unfolding choices numbers_from link_bytes bits_of is_byte
all-bytes = refl

links-bytes : (xs : List Link) → ((x : Link) → x ∈ xs → x ∈ choices) → (b : ℕ) → b ∈ join (map (link_bytes plain.link.mark) xs) → is_byte b ≡ true
links-bytes [] h b m = absurd (Memᴰ.not-nil m)
links-bytes (x ∷ xs) h b m =
    ⊎_elim
    (λ n. all-mem is_byte _ (all-mem _ choices all-bytes x (h x (here refl))) b n)
    (λ n. links-bytes xs (λ y k. h y (there k)) b n)
    (Memᴰ.append_cases (link_bytes plain.link.mark x) m)

module _ (q : ℕ) (h : q < small_count) where
  abbrev links : List Link
  links = get_or links_in_order q []

  chosen : (x : Link) → x ∈ links → x ∈ choices
  chosen x m = picks-each choices small_link_count (links-picks q h) x m

  nth : (i : ℕ) → i < length links → get_or links i no_link ∈ choices
  nth i k = chosen _ (get_or-mem links i no_link k)

  legal : figures_checked (small_figures q) ≡ no_refusal
  unfolding figures_checked yard_figures_checked bad_ranks refuse_if ◌or_else◌
  legal =
      rw (links-many q h)
      (first-none _ small_link_count (λ i k. choice-legal _ (nth i (omega (arith, links-many q h))) (i + 1)))

  fits : (i : ℕ) → i < length links → Fitting (get_or links i no_link)
  fits i k = choice-fits _ (nth i k)

  abbrev l : Layout
  l = layout_for 0x5944

  w : Writable l
  w = writable-for 0x5944

  -- its figures are read back
  survey-read : figures_of (small_survey q) ≡ small_figures q
  unfolding small_survey
  survey-read = figures-read l w (small_figures q) fits

  pub survey-size : length (small_survey q) ≡ small_bytes
  unfolding small_survey layout_for row_where
  survey-size = survey-length l w (small_figures q) ∙ ap (λ (m : ℕ). 6 + m * 12) (links-many q h)

  survey-fine : checked_of (small_survey q) ≡ no_refusal
  unfolding small_survey
  survey-fine = reader-agrees l w (small_figures q) (λ _. record { each = λ i k _. fits i k }) ∙ legal

  survey-kind : kind_of (layout_of (small_survey q)) ≡ 0x5944
  unfolding small_survey layout_for row_where
  survey-kind = ap kind_of (survey-layout l w (small_figures q))

  survey-bytes : OfBytes (small_survey q)
  unfolding small_survey survey_in layout_for row_where is_byte
  survey-bytes =
      members-bytes (small_survey q) (λ b m.
      ltb-true b 256 (⊎_elim
      (λ n. all-mem is_byte (yard_bytes plain small_yard (length links)) (yard-bytes (length links)) b n)
      (λ n. links-bytes links chosen b n)
      (Memᴰ.append_cases (yard_bytes plain small_yard (length links)) m)))

  pub survey-small : OfSmallKind (small_survey q)
  survey-small =
      let same = survey-read in
      record {
        bytes = survey-bytes;
        accepted = survey-fine;
        kind = survey-kind;
        stations = ap (λ (f : Figures). f.yard.n) same;
        ceilings = ap (λ (f : Figures). f.yard.p) same;
        rank = ap (λ (f : Figures). f.yard.k1) same;
        link-count = ap (λ (f : Figures). length f.links) same ∙ links-many q h;
        each = λ x m. choice-small x (chosen x (subst (λ (f : Figures). x ∈ f.links) same m));
      }

-- ---- in order

order-length : length links_in_order ≡ small_count
unfolding links_in_order
order-length = positions-length (replicate small_link_count choices) ∙ share-all

pub survey-order : (u v : ℕ) → u < v → v < small_count → ComesBefore (small_survey u) (small_survey v)
unfolding links_in_order
survey-order u v h k =
    let R : List Link → List Link → Type 0 = λ a b. Less (dictionary choice_order) (map choice_of a) (map choice_of b) in
    let rise = positions-rise choice_order choice_of choices choices-rise small_link_count in
    rw (survey-read u (omega arith), survey-read v k) (pairwise-at R links_in_order rise u v [] h (omega (arith, order-length)))

-- ---- each once

-- the survey of a lower number is another one
survey-other : (u v : ℕ) → u < v → v < small_count → small_survey u ≡ small_survey v → ⊥
survey-other u v h k e =
    less-irrefl (dictionary choice_order) (map choice_of (figures_of (small_survey v)).links)
    (subst (λ (s : List ℕ). ComesBefore s (small_survey v)) e (survey-order u v h k))

-- so a survey is that of one number
survey-apart : (u v : ℕ) → u < small_count → v < small_count → small_survey u ≡ small_survey v → u ≡ v
survey-apart u v h k e =
    by-test (leb u v)
    (λ t. ⊎_elim (λ (q : u ≡ v). q) (λ (q : u < v). absurd (survey-other u v q k e)) (eq-or-lt_of_le (leb-true u v t)))
    (λ t. absurd (survey-other v u (leb-false u v t) h (sym e)))

-- an absent rank is 0
absent-rank : (k : ℕ) → bad_ranks 3 1 (1 ∷ k ∷ []) ≡ false → k ≡ 0
unfolding bad_ranks
absent-rank k e = eqb-true k 0 (not-false _ (or-false _ _ (or-false (not (eqb k 0) || false) _ e).0).0)

-- an absent cost is 0
absent-cost : (x : Link) → Fitting x → bad_costs 1 x.sum (bits_of w16 x.c1 ∷ bits_of w16 x.c2 ∷ []) ≡ false → x.c2 ≡ pos 0
unfolding absent_costs bits_of
absent-cost x fit e =
    let zeros = eqb-true (bits_of w16 x.c2) 0 (not-false _ (or-false _ _ (or-false (bad_sum x.sum) _ e).1).0) in
    sym (to_z-of_z w16 x.c2 fit.c2) ∙ ap (to_z w16) zeros

module _ (s : List ℕ) (small : OfSmallKind s) where
  abbrev f : Figures
  f = figures_of s

  known : unknown_kind 0x5944 ≡ false
  unfolding unknown_kind layout_for row_where
  known = refl

  written : Writable (layout_of s)
  written = rw (← (layout-known s 0x5944 small.kind known)) (writable-for 0x5944)

  lawful : figures_checked f ≡ no_refusal
  lawful = figures-legal s small.bytes written small.accepted

  -- its yard
  same-yard : f.yard ≡ small_yard
  unfolding figures_checked yard_figures_checked
  same-yard =
      let ranks = refuse-fine _ _ _ (fine-both _ _ (fine-both _ _ lawful).0).1 in
      let k2 = absent-rank f.yard.k2 (rw (small.stations, small.ceilings, small.rank) at ranks) in
      λ i. record { n = small.stations i; p = small.ceilings i; k1 = small.rank i; k2 = k2 i }

  -- its links are choices
  link-chosen : (x : Link) → x ∈ f.links → x ∈ choices
  unfolding figures_checked link_figures_checked
  link-chosen x m =
      let at = mem-get_or no_link m in
      let i = at.0 in
      let y : Link = get_or f.links i no_link in
      let both = fine-both _ _ (first_fine (λ i. link_figures_checked f.yard (get_or f.links i no_link) (i + 1)) _ (fine-both _ _ lawful).1 i at.1) in
      let ends : bad_ends 3 y.first y.second ≡ false = rw small.stations at (refuse-fine _ _ _ both.0) in
      let costs = rw small.ceilings at (refuse-fine _ _ _ both.1) in
      let second : y.second < 3 = leb-false 3 y.second (or-false (leb 3 y.first) _ (or-false _ _ ends).0).1 in
      let absent = absent-cost y (figures-fit s small.bytes (layout_of s) i at.1) costs in
      let choice : y ∈ choices = small-choice y (small.each y (get_or-mem f.links i no_link at.1)) second absent in
      rw at.2 choice

  -- so it is the survey of a number
  numbered : (u : ℕ) × (u < small_count) × (f.links ≡ get_or links_in_order u [])
  unfolding links_in_order
  numbered =
      let picks = each-picks choices f.links link-chosen in
      let at = mem-get_or [] (positions-mem (rw small.link-count at picks)) in
      (at.0, omega (arith, at.1, order-length), at.2)

  its-survey : (u : ℕ) → f.links ≡ get_or links_in_order u [] → small_survey u ≡ s
  unfolding small_survey
  its-survey u e =
      let same : small_figures u ≡ f = λ i. record { yard = sym same-yard i; links = sym e i } in
      let told : Says s 0x5944 f = record { accepted = small.accepted; kept = small.kind; read = refl } in
      ap (λ (g : Figures). survey_of g 0x5944) same ∙ figures-survey s 0x5944 f small.bytes told known

  pub survey-number : NumberOf s
  survey-number =
      let u = numbered in
      let same = its-survey u.0 u.2 in
      record { number = u.0; below = u.1; survey = same; only = λ v h e. survey-apart v u.0 h u.1 (e ∙ sym same) }
