-- Document 01, "Bytes": the plan list, which is a list head and then plan records.
use Rattle.std.specs.Prelude.{cond, List, [], ◌∷◌, ◌++◌, map, ℕ, ◌+◌, ◌-◌, ◌*◌, leb, ltb, ℤ, pos, get_or, length, replicate, take}
use Rattle.std.specs.Int.{w16, w32}
use Rattle.network.specs.Capacities.{ceilings_held}
use Rattle.network.specs.Limits.{max_plans, max_tree}
use Rattle.network.specs.Bytes.{bits_of, i16_at, i32_at, little_endian}
use Rattle.network.specs.Tabulate.{tabulate}
use Rattle.network.specs.Survey.{narrow_slots, wide_slots}
use Rattle.network.specs.Yard.{ceiling_costs, tree_size, tree_sum}
use Rattle.network.specs.Walk.{plans, position_count, solved_count}
use Rattle.network.specs.declared.Costs.{Costs}
use Rattle.network.specs.Network.{Network}

-- the mark of the list head, 50 48
abbrev pub head_mark : List ℕ
head_mark = 0x50 ∷ 0x48 ∷ []

-- how many ceiling costs a plan record has room for, with p ceilings: two, and three where p is 3
unfoldable pub plan_slots : ℕ → ℕ
plan_slots p = cond (leb p narrow_slots) narrow_slots wide_slots

-- the mark of a plan record with room for so many: 50 4C for two, and 50 4D for three
unfoldable pub plan_mark : ℕ → List ℕ
plan_mark slots = cond (leb slots narrow_slots) (0x50 ∷ 0x4C ∷ []) (0x50 ∷ 0x4D ∷ [])

-- the list head: mark, plan count, solved count, t, p
abbrev pub head_bytes : ℕ → ℕ → ℕ → ℕ → List ℕ
head_bytes count solved t p = head_mark ++ (little_endian 2 count ++ (little_endian 4 solved ++ (t ∷ p ∷ [])))

-- byte strings one after the other
abbrev pub join : List (List ℕ) → List ℕ
join [] = []
join (b ∷ bs) = b ++ join bs

-- ceiling costs as bytes, two for each
unfoldable pub ceiling_bytes : List ℤ → List ℕ
ceiling_bytes ys = join (map (λ y. little_endian 2 (bits_of w16 y)) ys)

-- a plan record with room for so many ceiling costs: mark, sum, y1, y2, .., the link numbers
abbrev pub plan_bytes : ℕ → Costs → List ℕ → List ℕ
plan_bytes slots v links = plan_mark slots ++ (little_endian 4 (bits_of w32 v.sum) ++ (ceiling_bytes (take slots v.y) ++ links))

-- the sum that the plan record at an index holds
abbrev pub plan_sum_at : List ℕ → ℕ → ℤ
plan_sum_at bs at = i32_at bs (at + 2)

-- ceiling cost j, from 0, of the plan record at an index, which has room for so many; 0 where it has no room for that
abbrev pub plan_ceiling : ℕ → List ℕ → ℕ → ℕ → ℤ
plan_ceiling slots bs at j = cond (ltb j slots) (i16_at bs (at + 6 + 2 * j)) (pos 0)

-- the costs that the plan record at an index holds
unfoldable pub costs_at : ℕ → List ℕ → ℕ → Costs
costs_at slots bs at = record { sum = plan_sum_at bs at; y = tabulate (plan_ceiling slots bs at) ceilings_held }

-- the size of the head
abbrev pub head_size : ℕ
head_size = 10

-- the size of a plan record of t links with room for so many ceiling costs: mark, sum, these costs, the link numbers
abbrev pub plan_size : ℕ → ℕ → ℕ
plan_size slots t = 6 + 2 * slots + t

-- the costs of a tree: its sum and its ceiling costs, 0 where a ceiling is absent
abbrev pub costs_of : Network → List ℕ → Costs
costs_of net ts = record { sum = tree_sum net ts; y = tabulate (λ j. get_or (ceiling_costs net ts) j (pos 0)) ceilings_held }

-- the plan record of a tree of a yard
abbrev pub record_of : Network → List ℕ → List ℕ
record_of net ts = plan_bytes (plan_slots net.p) (costs_of net ts) ts

-- the list of a yard: its head, then its plans by rising sum, then y1, then y2, then y3
abbrev pub list_bytes : Network → List ℕ
list_bytes net = head_bytes (length (plans net)) (solved_count net) (tree_size net) net.p ++ join (map (record_of net) (plans net))

-- what a list buffer needs: 10 + M × (10 + t) bytes, and 10 + M × (12 + t) where p is 3; at most 56,010
abbrev pub buffer_need : Network → ℕ
buffer_need net = head_size + position_count net * plan_size (plan_slots net.p) (tree_size net)

-- the most that it can be (`need-limit`)
abbrev pub max_need : ℕ
max_need = head_size + max_plans * plan_size wide_slots max_tree

-- a list buffer of `size` bytes on success: the list, and 0 after the last plan
abbrev pub filled : Network → ℕ → List ℕ
filled net size = let list = list_bytes net in list ++ replicate (size - length list) 0
