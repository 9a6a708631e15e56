-- The first refusal of several checks, by which document 01's order of the numbers is said.
use Prim.Native.Nat.{ℕ, zero, suc, ◌+◌, ◌<◌}
use Rattle.std.specs.Prelude.{◌≡◌, Bool, true, false}
use Rattle.std.proofs.Math.Path.{refl}
use Rattle.std.proofs.Common.{ap, sym, ◌∙◌, eq-or-lt_of_le, add-one, arith}
use Rattle.std.proofs.Math.Logic.{⊎_elim}
use Rattle.std.proofs.Math.Decide.{le_ind}
use Rattle.network.specs.declared.refusals.Refusal.{Refusal}
use Rattle.std.specs.Prelude.{List, [], ◌∷◌, ◌-◌, Result, Ok, Err, get_or}
use Rattle.network.specs.Calls.{status}
use Rattle.network.specs.declared.refusals.Status.{Status}
use Rattle.network.specs.Checked.{Checked, first_refusal, no_refusal, number_of, refuse_if, ◌or_else◌}
use Rattle.network.specs.declared.refusals.Rule.{Rule}
use Rattle.network.specs.declared.refusals.Rule.TheVariants.{BadLength, WrongMark, BadStations, TooManyLinks, BadCeilings, BadRanks, BadEnds, BadCosts, ShortBuffer}
use Rattle.network.specs.declared.refusals.Rule.TheVariants.{AllowanceSpent, NoTree, DamagedList, NoSuchPlan, NothingFits, WrongLinkCount, ShortIndex}
use Rattle.network.specs.declared.refusals.Rule.TheVariants.{ShortOutput, BadRest, TooManyPositions, NoSuchSurvey, TooManyToEnumerate}

-- the rules by their numbers, from 1
abbrev rules : List Rule
rules =
    BadLength ∷ WrongMark ∷ BadStations ∷ TooManyLinks ∷ BadCeilings ∷ BadRanks ∷ BadEnds ∷ BadCosts ∷ ShortBuffer
    ∷ AllowanceSpent ∷ NoTree ∷ DamagedList ∷ NoSuchPlan ∷ NothingFits ∷ WrongLinkCount ∷ ShortIndex
    ∷ ShortOutput ∷ BadRest ∷ TooManyPositions ∷ NoSuchSurvey ∷ TooManyToEnumerate ∷ []

-- the rule with a number
abbrev rule_of : ℕ → Rule
rule_of number = get_or rules (number - 1) TooManyToEnumerate

numbered : (rule : Rule) → rule_of (number_of rule) ≡ rule
numbered BadLength = refl
numbered WrongMark = refl
numbered BadStations = refl
numbered TooManyLinks = refl
numbered BadCeilings = refl
numbered BadRanks = refl
numbered BadEnds = refl
numbered BadCosts = refl
numbered ShortBuffer = refl
numbered AllowanceSpent = refl
numbered NoTree = refl
numbered DamagedList = refl
numbered NoSuchPlan = refl
numbered NothingFits = refl
numbered WrongLinkCount = refl
numbered ShortIndex = refl
numbered ShortOutput = refl
numbered BadRest = refl
numbered TooManyPositions = refl
numbered NoSuchSurvey = refl
numbered TooManyToEnumerate = refl

-- no two rules have one number
pub numbered-once : (a b : Rule) → number_of a ≡ number_of b → a ≡ b
numbered-once a b e = sym (numbered a) ∙ ap rule_of e ∙ numbered b

-- no two refusals have one number and place
pub refused-once : {A : Type 0} (r q : Refusal) → number_of r.rule ≡ number_of q.rule → r.place ≡ q.place → ◌≡◌ {A = Result A Refusal} (Err r) (Err q)
refused-once r q e place = let rule = numbered-once r.rule q.rule e in λ i. Err (record { rule = rule i; place = place i })

-- every rule has a number above 0
rule-numbered : (rule : Rule) → 0 < number_of rule
rule-numbered BadLength = omega arith
rule-numbered WrongMark = omega arith
rule-numbered BadStations = omega arith
rule-numbered TooManyLinks = omega arith
rule-numbered BadCeilings = omega arith
rule-numbered BadRanks = omega arith
rule-numbered BadEnds = omega arith
rule-numbered BadCosts = omega arith
rule-numbered ShortBuffer = omega arith
rule-numbered AllowanceSpent = omega arith
rule-numbered NoTree = omega arith
rule-numbered DamagedList = omega arith
rule-numbered NoSuchPlan = omega arith
rule-numbered NothingFits = omega arith
rule-numbered WrongLinkCount = omega arith
rule-numbered ShortIndex = omega arith
rule-numbered ShortOutput = omega arith
rule-numbered BadRest = omega arith
rule-numbered TooManyPositions = omega arith
rule-numbered NoSuchSurvey = omega arith
rule-numbered TooManyToEnumerate = omega arith

-- number 0 and place 0 come where nothing is refused
pub status-fine : (c : Checked) → status c ≡ status no_refusal → c ≡ no_refusal
unfolding status
status-fine (Ok u) e = refl
status-fine (Err r) e =
    let none = ap (λ (s : Status). s.number) e in
    let some = rule-numbered r.rule in
    absurd (omega arith)

-- a test that did not refuse does not hold
pub refuse-fine : (bad : Bool) (rule : Rule) (place : ℕ) → refuse_if bad rule place ≡ no_refusal → bad ≡ false
unfolding refuse_if
refuse-fine true rule place e = let z : ◌≡◌ {A = ℕ} 0 1 = cc in absurd (omega arith)
refuse-fine false rule place e = refl

-- two checks find nothing together where each finds nothing
pub fine-both : (a b : Checked) → a or_else b ≡ no_refusal → (a ≡ no_refusal) × (b ≡ no_refusal)
unfolding ◌or_else◌
fine-both (Ok u) b e = (refl, e)
fine-both (Err r) b e = let z : ◌≡◌ {A = ℕ} 0 1 = cc in absurd (omega arith)

module _ (f : ℕ → Checked) where
  -- after m checks that found nothing the next one decides
  first_next : (m : ℕ) → first_refusal f m ≡ no_refusal → first_refusal f (suc m) ≡ f m
  unfolding first_refusal ◌or_else◌
  first_next m e = rw e

  -- a check that finds nothing either
  pub first_more : (m : ℕ) → first_refusal f m ≡ no_refusal → f m ≡ no_refusal → first_refusal f (m + 1) ≡ no_refusal
  first_more m e q = rw add-one (first_next m e ∙ q)

  -- the first refusal is that of all checks, however many follow
  pub first_found : (m : ℕ) (r : Refusal) → first_refusal f m ≡ no_refusal → f m ≡ Err r → (k : ℕ) → m < k → first_refusal f k ≡ Err r
  unfolding first_refusal ◌or_else◌
  first_found m r e q k h = le_ind (λ j. first_refusal f j ≡ Err r) (first_next m e ∙ q) (λ j _ ih. rw ih) k h

  -- where no check finds anything, nothing is found
  pub first-none : (m : ℕ) → ((i : ℕ) → i < m → f i ≡ no_refusal) → first_refusal f m ≡ no_refusal
  unfolding first_refusal
  first-none zero h = refl
  first-none (suc m) h = first_next m (first-none m (λ i k. h i (omega arith))) ∙ h m (omega arith)

  -- where nothing was found, no check found anything
  pub first_fine : (m : ℕ) → first_refusal f m ≡ no_refusal → (i : ℕ) → i < m → f i ≡ no_refusal
  unfolding first_refusal
  first_fine zero e i h = absurd (omega arith)
  first_fine (suc m) e i h =
      let both = fine-both (first_refusal f m) (f m) e in
      ⊎_elim (λ (q : i ≡ m). rw q both.1) (λ (q : i < m). first_fine m both.0 i q) (eq-or-lt_of_le (omega arith))
