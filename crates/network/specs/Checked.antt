-- The first refusal of several checks, by which document 01's order of the numbers is said, and what replies are where nothing is refused.
use Prim.Native.Nat.{ℕ, zero, suc}
use Rattle.std.specs.Prelude.{Bool, true, false, Result, Ok, Err}
use Rattle.network.specs.declared.Costs.{Costs}
use Rattle.network.specs.declared.refusals.Refusal.{Refusal}
use Rattle.network.specs.declared.refusals.Rule.{Rule}
use Rattle.network.specs.declared.refusals.Rule.TheVariants.{BadLength, WrongMark, BadStations, TooManyLinks, BadCeilings, BadRanks, BadEnds, BadCosts, ShortBuffer}
use Rattle.network.specs.declared.refusals.Rule.TheVariants.{AllowanceSpent, NoTree, DamagedList, NoSuchPlan, NothingFits, WrongLinkCount, ShortIndex, ShortOutput}
use Rattle.network.specs.declared.refusals.Rule.TheVariants.{BadRest, TooManyPositions, NoSuchSurvey, TooManyToEnumerate}

-- document 01's number of each rule
abbrev pub number_of : Rule → ℕ
number_of BadLength = 1
number_of WrongMark = 2
number_of BadStations = 3
number_of TooManyLinks = 4
number_of BadCeilings = 5
number_of BadRanks = 6
number_of BadEnds = 7
number_of BadCosts = 8
number_of ShortBuffer = 9
number_of AllowanceSpent = 10
number_of NoTree = 11
number_of DamagedList = 12
number_of NoSuchPlan = 13
number_of NothingFits = 14
number_of WrongLinkCount = 15
number_of ShortIndex = 16
number_of ShortOutput = 17
number_of BadRest = 18
number_of TooManyPositions = 19
number_of NoSuchSurvey = 20
number_of TooManyToEnumerate = 21

-- ---- checks

-- what a check finds: nothing, or the first refusal
abbrev pub Checked : Type 0
Checked = Result (Unit {0}) Refusal

-- nothing is refused
abbrev pub no_refusal : Checked
no_refusal = Ok tt

-- a refusal by its rule and place where the test holds
unfoldable pub refuse_if : Bool → Rule → ℕ → Checked
refuse_if true rule place = Err (record { rule = rule; place = place })
refuse_if false rule place = no_refusal

-- the first refusal of the two
infixl 20 ◌or_else◌
unfoldable pub ◌or_else◌ : Checked → Checked → Checked
Ok u or_else b = b
Err r or_else b = Err r

-- the first refusal of the checks number 0 to m - 1
unfoldable pub first_refusal : (ℕ → Checked) → ℕ → Checked
first_refusal f zero = no_refusal
first_refusal f (suc m) = first_refusal f m or_else f m

-- ---- answers

-- the reply to a ceilings question, or of the judge of a drawn tree: a plan's costs, or the refusal
abbrev pub Answer : Type 0
Answer = Result Costs Refusal

-- the reply to a lookup in an index: a plan's number, or the refusal
abbrev pub Found : Type 0
Found = Result ℕ Refusal

-- the reply to the number of trees: how many there are, or the refusal
abbrev pub Counted : Type 0
Counted = Result ℕ Refusal
