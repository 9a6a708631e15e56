-- Document 01, "When the planner declines": what each call on a survey replies and what it leaves in the buffer it was lent, with the numbers
-- 9, 10, 11 and 14 in each call's own order. Each call reads its survey and leaves it as it was.
use Rattle.std.specs.Prelude.{Bool, cond, false, not, true, List, [], ◌∷◌, ◌++◌, ℕ, ltb, ℤ, drop, length, replicate}
use Rattle.std.proofs.Math.Option.{Option, none, some}
use Rattle.network.specs.Yard.{best, bounds, is_tree, tree_size}
use Rattle.network.specs.Walk.{passes}
use Rattle.network.specs.Survey.{network_of}
use Rattle.network.specs.PlanList.{buffer_need, costs_of, filled}
use Rattle.network.specs.Checked.{Answer, Checked, number_of, refuse_if, ◌or_else◌}
use Rattle.network.specs.Refusals.{checked_of}
use Rattle.std.specs.Prelude.{Ok, Err}
use Rattle.network.specs.declared.refusals.Rule.TheVariants.{AllowanceSpent, NoTree, NothingFits, ShortBuffer}
use Rattle.network.specs.declared.Costs.{Costs}
use Rattle.network.specs.Network.{Network}
use Rattle.network.specs.declared.refusals.Status.{Status}

-- ---- replies

-- A reply in document 01's terms: the number and place of a refusal and no values, or 0, 0 and the values: a plan's sum, y1, y2 and y3, or of a lookup the
-- number of the plan.
pub record Reply : Type 0 where
  pub number : ℕ
  pub place : ℕ
  pub values : List ℤ

-- the values of a plan's costs
abbrev pub cost_values : Costs → List ℤ
cost_values v = v.sum ∷ v.y

-- what each case of an answer says
unfoldable pub says : Answer → Reply
says (Ok v) = record { number = 0; place = 0; values = cost_values v }
says (Err r) = record { number = number_of r.rule; place = r.place; values = [] }

-- the reply by a check: the refusal it found, or else the values
unfoldable pub reply : Checked → List ℤ → Reply
reply (Ok u) vs = record { number = 0; place = 0; values = vs }
reply (Err r) vs = record { number = number_of r.rule; place = r.place; values = [] }

-- the number and place of a call that only fills a buffer: those of the refusal, or 0, 0
unfoldable pub status : Checked → Status
status (Ok u) = record { number = 0; place = 0 }
status (Err r) = record { number = number_of r.rule; place = r.place }

-- what a check that found nothing lets through, and what stands where it refused
unfoldable pub if_fine : {A : Type 0} → Checked → A → A → A
if_fine (Ok u) a b = a
if_fine (Err r) a b = b

-- ---- the judge of a drawn tree

-- 1 to 8, 15, 18 and 19, then 11: not t links, not strictly rising, one not in the survey, or no tree
unfoldable pub drawn_checked : List ℕ → List ℕ → Checked
drawn_checked s drawn = checked_of s or_else refuse_if (not (is_tree (network_of s) drawn)) NoTree 0

-- the reply to a drawn tree: its costs, or the refusal
unfoldable pub judged : List ℕ → List ℕ → Reply
judged s drawn = reply (drawn_checked s drawn) (cost_values (costs_of (network_of s) drawn))

-- ---- the ceilings question

-- the links of a tree, if there is one
abbrev pub links_of : Option (List ℕ) → List ℕ
links_of none = []
links_of (some ts) = ts

-- there is no tree
abbrev pub is_none : Option (List ℕ) → Bool
is_none none = true
is_none (some ts) = false

-- the best tree of a survey's yard under the numbers given, one for each of three ceilings
unfoldable pub best_tree : List ℕ → List ℤ → Option (List ℕ)
best_tree s given = let net = network_of s in best net (bounds net given)

-- 1 to 8, 15, 18 and 19, then 9: a tree buffer of `size` bytes is below t; then 14: no tree fits
unfoldable pub asked_checked : List ℕ → List ℤ → ℕ → Checked
asked_checked s given size =
    checked_of s
    or_else refuse_if (ltb size (tree_size (network_of s))) ShortBuffer 0
    or_else refuse_if (is_none (best_tree s given)) NothingFits 0

-- the reply to a ceilings question: the best tree's costs, or the refusal
unfoldable pub asked : List ℕ → List ℤ → ℕ → Reply
asked s given size = reply (asked_checked s given size) (cost_values (costs_of (network_of s) (links_of (best_tree s given))))

-- a tree buffer with the links of a tree, if there is one, in its first bytes; the others are as they were
unfoldable pub tree_with : Option (List ℕ) → List ℕ → List ℕ
tree_with o tree = let ts = links_of o in ts ++ drop (length ts) tree

-- the tree buffer after it: the best tree's links, rising, in its first t bytes; its bytes past t, and all bytes on a refusal, are as they were
unfoldable pub tree_after : List ℕ → List ℤ → List ℕ → List ℕ
tree_after s given tree = if_fine (asked_checked s given (length tree)) (tree_with (best_tree s given) tree) tree

-- ---- the list call

-- 9: a list buffer of `size` bytes is below its need
unfoldable pub room_checked : Network → ℕ → Checked
room_checked net size = refuse_if (ltb size (buffer_need net)) ShortBuffer 0

-- then 10: the solved count would pass the allowance
unfoldable pub plans_checked : Network → ℕ → ℕ → Checked
plans_checked net allowance size = room_checked net size or_else refuse_if (passes net allowance) AllowanceSpent 0

-- the list buffer of a yard: as it was on 9, 0 throughout on 10, and else the list with 0 after it
unfoldable pub plans_after : Network → ℕ → List ℕ → List ℕ
plans_after net allowance buffer =
    let size = length buffer in
    if_fine (room_checked net size) (cond (passes net allowance) (replicate size 0) (filled net size)) buffer

-- 1 to 8, 15, 18 and 19, then 9 and 10
unfoldable pub list_checked : List ℕ → ℕ → ℕ → Checked
list_checked s allowance size = checked_of s or_else plans_checked (network_of s) allowance size

-- the reply to a list call
unfoldable pub list_status : List ℕ → ℕ → ℕ → Status
list_status s allowance size = status (list_checked s allowance size)

-- the list buffer after it: as it was on 1 to 8, 15, 18 and 19, and else that of the yard
unfoldable pub list_after : List ℕ → ℕ → List ℕ → List ℕ
list_after s allowance buffer = if_fine (checked_of s) (plans_after (network_of s) allowance buffer) buffer
