-- What holds of the bytes of a survey whose records are fine, as those of an accepted one are.
use Rattle.std.specs.Prelude.{ℕ, ◌+◌, ◌-◌, ◌*◌, ◌/◌, ◌%◌, ◌≤◌, ◌<◌, ◌≡◌, refl, Bool, true, false, ◌||◌, List, ltb, length}
use Rattle.std.proofs.Common.{ap, div-add-mod', mul-le-mul_right, suc-mul, arith, eqb-true, leb-false, ltb-false}
use Rattle.std.proofs.lemmas.Bool.{not-false}
use Rattle.network.specs.Limits.{max_plans}
use Rattle.network.specs.Bytes.{byte_at}
use Rattle.network.specs.Survey.{ceilings_in, end_in, layout_of, link_count, link_size, link_start, network_of}
use Rattle.network.specs.Walk.{position_count}
use Rattle.network.specs.Layouts.{Roomy}
use Rattle.network.proofs.Layouts.{layout-roomy}
use Rattle.network.proofs.CheckedLaws.{fine-both, first_fine, refuse-fine}
use Rattle.network.specs.Refusals.{bad_length, checked_of, checked_with, link_checked, link_checked_at}
use Rattle.network.specs.Refusals.{records_checked, too_many_positions, yard_checked}
use Rattle.network.specs.Checked.{no_refusal}
use Rattle.network.specs.declared.Layout.{Layout}
use Rattle.network.specs.Accepted.{LinkFine, RecordsFine, Whole, YardFine}

-- neither part of a disjunction that fails holds
pub or-false : (a b : Bool) → a || b ≡ false → (a ≡ false) × (b ≡ false)
or-false true b e = let z : ◌≡◌ {A = ℕ} 0 1 = cc in absurd (omega arith)
or-false false b e = (refl, e)

-- link record i lies inside
pub inside : {s : List ℕ} {l : Layout} {m : ℕ} → Whole s l m → (i : ℕ) → i < m → link_start l i + link_size l.slots ≤ length s
inside {s} {l} {m} w i h = omega (arith, mul-le-mul_right l.link.size h, suc-mul i l.link.size)

-- the length is that of a yard record and whole link records
pub whole-records : (l : Layout) (len : ℕ) → bad_length l len ≡ false → len ≡ l.yard.size + (len - l.yard.size) / l.link.size * l.link.size
unfolding bad_length
whole-records l len e =
    let both = or-false _ _ e in
    let low : l.yard.size ≤ len = ltb-false _ _ both.0 in
    let rest : (len - l.yard.size) % l.link.size ≡ 0 = eqb-true _ _ (not-false _ both.1) in
    omega (arith, div-add-mod' (len - l.yard.size) l.link.size)

pub yard-fine : (s : List ℕ) (l : Layout) (m : ℕ) → yard_checked s l m ≡ no_refusal → YardFine s l m
unfolding yard_checked
yard-fine s l m e =
    let to6 = fine-both _ _ e in
    let to5 = fine-both _ _ to6.0 in
    let to18 = fine-both _ _ to5.0 in
    let to15 = fine-both _ _ to18.0 in
    let to4 = fine-both _ _ to15.0 in
    let to3 = fine-both _ _ to4.0 in
    let stations = or-false _ _ (refuse-fine _ _ _ to3.1) in
    let ceilings = or-false (ltb (ceilings_in s) l.fewest) _ (refuse-fine _ _ _ to5.1) in
    record {
      mark = not-false _ (refuse-fine _ _ _ to3.0);
      some-station = ltb-false _ _ stations.0;
      few-stations = ltb-false _ _ stations.1;
      few-links = ltb-false _ _ (refuse-fine _ _ _ to4.1);
      count = refuse-fine _ _ _ to15.1;
      resting = refuse-fine _ _ _ to18.1;
      few-ceilings = ltb-false _ _ ceilings.1;
      ranks = refuse-fine _ _ _ to6.1;
    }

pub link-fine : (s : List ℕ) (at : ℕ) (mark : List ℕ) (slots n p place : ℕ) → link_checked s at mark slots n p place ≡ no_refusal → LinkFine s at mark n
unfolding link_checked
link-fine s at mark slots n p place e =
    let to7 = fine-both _ _ e in
    let to2 = fine-both _ _ to7.0 in
    let first : end_in s at 0 ≡ byte_at s (at + 2) = ap (byte_at s) (omega arith) in
    let second : end_in s at 1 ≡ byte_at s (at + 3) = ap (byte_at s) (omega arith) in
    let ends = or-false _ _ (rw (first, second) at (refuse-fine _ _ _ to2.1)) in
    let each = or-false _ _ ends.0 in
    let costs = or-false _ _ (refuse-fine _ _ _ to7.1) in
    record {
      marked = not-false _ (refuse-fine _ _ _ to2.0);
      first-end = leb-false _ _ each.0;
      second-end = leb-false _ _ each.1;
      priced = costs.0;
    }

-- where the length is right and the yard record is fine
pub whole : (s : List ℕ) (l : Layout) → Roomy l → bad_length l (length s) ≡ false → yard_checked s l (link_count l s) ≡ no_refusal → Whole s l (link_count l s)
whole s l roomy right yard =
    record {
      size = whole-records l (length s) right;
      roomy = roomy;
      few = (yard-fine s l _ yard).few-links;
    }

pub records-fine : (s : List ℕ) (l : Layout) → Roomy l → records_checked l s ≡ no_refusal → RecordsFine s l
unfolding records_checked
records-fine s l roomy e =
    let both = fine-both _ _ e in
    let rest = fine-both _ _ both.1 in
    record {
      records = whole s l roomy (refuse-fine _ _ _ both.0) rest.0;
      yard = yard-fine s l _ rest.0;
      link = λ i h. link-fine s (link_start l i) _ _ _ _ (i + 1) (first_fine (link_checked_at s l) _ rest.1 i h);
    }

-- the records of an accepted survey are fine
pub accepted-records : (s : List ℕ) → checked_of s ≡ no_refusal → RecordsFine s (layout_of s)
unfolding checked_with
accepted-records s e = records-fine s (layout_of s) (layout-roomy s) (fine-both _ _ e).0

-- and it has at most 1,600 positions
pub accepted-positions : (s : List ℕ) → checked_of s ≡ no_refusal → position_count (network_of s) ≤ max_plans
unfolding checked_with too_many_positions
accepted-positions s e = ltb-false _ _ (refuse-fine _ _ _ (fine-both _ _ e).1)
