-- Document 02, "Write out every tree": the number of trees of a yard of at most 12 links, tree r from 0 in dictionary order, and the plan list by way of
-- all trees. 21 follows the numbers that the survey alone decides, then 9, then 13. No call has an allowance, and none replies with 10.
use Rattle.std.specs.Prelude.{List, [], ◌∷◌, ℕ, leb, ltb, pos, get_or, length}
use Rattle.std.proofs.Math.Option.{some}
use Rattle.network.specs.Limits.{max_enumerated}
use Rattle.network.specs.Network.{Network}
use Rattle.network.specs.Yard.{tree_size, trees}
use Rattle.network.specs.Survey.{network_of}
use Rattle.network.specs.PlanList.{costs_of}
use Rattle.network.specs.Checked.{Checked, Counted, number_of, refuse_if, ◌or_else◌}
use Rattle.network.specs.Refusals.{checked_of}
use Rattle.network.specs.Calls.{Reply, cost_values, if_fine, reply, room_checked, status, tree_with}
use Rattle.std.specs.Prelude.{Ok, Err}
use Rattle.network.specs.declared.refusals.Rule.TheVariants.{NoSuchPlan, ShortBuffer, TooManyToEnumerate}
use Rattle.network.specs.declared.refusals.Status.{Status}

-- ---- the trees of a yard by their numbers

-- the number of trees
abbrev pub tree_count : Network → ℕ
tree_count net = length (trees net)

-- tree r, from 0 in dictionary order
abbrev pub tree_at : Network → ℕ → List ℕ
tree_at net r = get_or (trees net) r []

-- ---- the number of trees

-- 1 to 8, 15, 18 and 19, then 21: the survey has over 12 links, usable or not
unfoldable pub trees_checked : List ℕ → Checked
trees_checked s = checked_of s or_else refuse_if (ltb max_enumerated (network_of s).m) TooManyToEnumerate 0

-- what each case of the enum says
unfoldable pub says_count : Counted → Reply
says_count (Ok n) = record { number = 0; place = 0; values = pos n ∷ [] }
says_count (Err r) = record { number = number_of r.rule; place = r.place; values = [] }

-- the reply to the number of trees: how many there are, which may be none, or the refusal
unfoldable pub count_reply : List ℕ → Reply
count_reply s = reply (trees_checked s) (pos (tree_count (network_of s)) ∷ [])

-- ---- tree r

-- then 9: a tree buffer of `size` bytes is below t; then 13: r is not below the number of trees
unfoldable pub tree_checked : List ℕ → ℕ → ℕ → Checked
tree_checked s r size =
    trees_checked s
    or_else refuse_if (ltb size (tree_size (network_of s))) ShortBuffer 0
    or_else refuse_if (leb (tree_count (network_of s)) r) NoSuchPlan 0

-- the reply to number r: the tree's costs, or the refusal
unfoldable pub tree_reply : List ℕ → ℕ → ℕ → Reply
tree_reply s r size = reply (tree_checked s r size) (cost_values (costs_of (network_of s) (tree_at (network_of s) r)))

-- the tree buffer after it: the tree's links, rising, in its first t bytes; its bytes past t, and all bytes on a refusal, are as they were
unfoldable pub tree_left : List ℕ → ℕ → List ℕ → List ℕ
tree_left s r tree = if_fine (tree_checked s r (length tree)) (tree_with (some (tree_at (network_of s) r)) tree) tree

-- ---- the plan list by way of all trees

-- then 9: the list buffer is below its need, which is that of the list call
unfoldable pub by_trees_checked : List ℕ → ℕ → Checked
by_trees_checked s size = trees_checked s or_else room_checked (network_of s) size

-- the reply
unfoldable pub by_trees_status : List ℕ → ℕ → Status
by_trees_status s size = status (by_trees_checked s size)
