-- Document 02, "An index by first ceiling": the index of a plan list, building it, and looking up the cheapest plan in it, with numbers 12, 13 and 16.
use Rattle.std.specs.Prelude.{Bool, ◌||◌, cond, not, List, [], ◌∷◌, ◌++◌, map, ℕ, zero, suc, ◌*◌, eqb, ltb, ℤ, pos, drop, get_or, length}
use Rattle.std.proofs.Math.Option.{Option, none, some}
use Rattle.std.specs.Int.Signed.{le_z}
use Rattle.order.specs.Lists.{all, numbers_from}
use Rattle.order.specs.Order.{dictionary, equal, orderℕ, orderℤ}
use Rattle.order.specs.Sorted.{sort}
use Rattle.order.specs.Least.{least}
use Rattle.network.specs.Bytes.{little_endian, u16_at}
use Rattle.network.specs.PlanList.{costs_at, join}
use Rattle.network.specs.Checked.{Checked, Found, number_of, refuse_if, ◌or_else◌}
use Rattle.network.specs.Calls.{Reply, if_fine, status}
use Rattle.network.specs.Fetching.{damaged, head_ceilings, head_count, head_slots, is_marked, plan_start}
use Rattle.std.specs.Prelude.{Ok, Err}
use Rattle.network.specs.declared.refusals.Rule.TheVariants.{DamagedList, NoSuchPlan, ShortIndex}
use Rattle.network.specs.declared.Costs.{Costs}
use Rattle.network.specs.declared.refusals.Rule.{Rule}
use Rattle.network.specs.declared.refusals.Status.{Status}

-- ---- the index

-- the numbers of a list's plans, from 0 on
abbrev pub plan_numbers : List ℕ → List ℕ
plan_numbers list = numbers_from (head_count list) 0

-- the costs in plan r's record
abbrev pub plan_costs : List ℕ → ℕ → Costs
plan_costs list r = costs_at (head_slots list) list (plan_start list r)

-- its ceiling cost j, from 0
abbrev pub plan_cost : List ℕ → ℕ → ℕ → ℤ
plan_cost list r j = get_or (plan_costs list r).y j (pos 0)

-- the list has no ceiling
abbrev pub without_ceilings : List ℕ → Bool
without_ceilings list = eqb (head_ceilings list) 0

-- what plan r stands by in the index: y1, sum, y2 and its number, for p = 3 too; for p = 0 sum and number alone
unfoldable pub index_key : List ℕ → ℕ → List ℤ
index_key list r =
    let sum = (plan_costs list r).sum in
    cond (without_ceilings list) (sum ∷ pos r ∷ []) (plan_cost list r 0 ∷ sum ∷ plan_cost list r 1 ∷ pos r ∷ [])

-- the index: the plan numbers in the rising order of what they stand by, the first entry that differs deciding
unfoldable pub index_of : List ℕ → List ℕ
index_of list = sort (dictionary orderℤ) (index_key list) (plan_numbers list)

-- its bytes: two for each number, low byte first
abbrev pub index_bytes : List ℕ → List ℕ
index_bytes list = join (map (little_endian 2) (index_of list))

-- what an index of the list needs: 2 bytes for each plan
abbrev pub index_need : List ℕ → ℕ
index_need list = head_count list * 2

-- ---- building

-- 12: the list is damaged as in fetching, or the mark of a plan is wrong
unfoldable pub unfit : List ℕ → Bool
unfit list = damaged list || not (all (is_marked list) (plan_numbers list))

-- 12, then 16: an index buffer of `size` bytes is below 2 for each plan
unfoldable pub index_checked : List ℕ → ℕ → Checked
index_checked list size = refuse_if (unfit list) DamagedList 0 or_else refuse_if (ltb size (index_need list)) ShortIndex 0

-- the reply to building
unfoldable pub index_status : List ℕ → ℕ → Status
index_status list size = status (index_checked list size)

-- a buffer with the index in its first bytes; the others are as they were
unfoldable pub index_in : List ℕ → List ℕ → List ℕ
index_in list buffer = index_bytes list ++ drop (index_need list) buffer

-- the index buffer after building: the index, its bytes past it as they were; on a refusal all are as they were
unfoldable pub index_after : List ℕ → List ℕ → List ℕ
index_after list buffer = if_fine (index_checked list (length buffer)) (index_in list buffer) buffer

-- ---- looking up

-- the first n numbers of two bytes in a buffer, from a byte on
unfoldable pub entries_from : ℕ → ℕ → List ℕ → List ℕ
entries_from zero at buffer = []
entries_from (suc n) at buffer = u16_at buffer at ∷ entries_from n (suc (suc at)) buffer

-- a buffer holds the index that building gives; its bytes past it do not matter
unfoldable pub is_index : List ℕ → List ℕ → Bool
is_index list buffer = equal (dictionary orderℕ) (entries_from (head_count list) 0 buffer) (index_of list)

-- plan r meets the given value: its y1 is at most that; for p = 0 every plan meets it
unfoldable pub meets : List ℕ → ℤ → ℕ → Bool
meets list y r = without_ceilings list || le_z (plan_cost list r 0) y

-- the sum of plan r
abbrev pub plan_sum : List ℕ → ℕ → ℤ
plan_sum list r = (plan_costs list r).sum

-- the cheapest plan that meets the value, the earliest in the list among equal sums
unfoldable pub cheapest : List ℕ → ℤ → Option ℕ
cheapest list y = least orderℤ (plan_sum list) (meets list y) (plan_numbers list)

-- 12 and 16 as building, then 12: the buffer does not hold the index
unfoldable pub lookup_checked : List ℕ → List ℕ → Checked
lookup_checked list buffer = index_checked list (length buffer) or_else refuse_if (not (is_index list buffer)) DamagedList 0

-- a refusal at place 0
abbrev pub declined : Rule → Found
declined rule = Err (record { rule = rule; place = 0 })

-- the plan that was found, or 13
unfoldable pub found_plan : Option ℕ → Found
found_plan none = declined NoSuchPlan
found_plan (some r) = Ok r

-- the refusal of a check, or what was found
unfoldable pub found_by : Checked → Option ℕ → Found
found_by (Err r) o = Err r
found_by (Ok u) o = found_plan o

-- what a lookup finds: the cheapest plan, or the refusal
unfoldable pub looked_up : List ℕ → List ℕ → ℤ → Found
looked_up list buffer y = found_by (lookup_checked list buffer) (cheapest list y)

-- what each case of the enum says: number 0, place 0 and the plan's number as the one value, or the refusal and no value
unfoldable pub says_found : Found → Reply
says_found (Ok r) = record { number = 0; place = 0; values = pos r ∷ [] }
says_found (Err r) = record { number = number_of r.rule; place = r.place; values = [] }

-- the reply to a lookup
unfoldable pub lookup_reply : List ℕ → List ℕ → ℤ → Reply
lookup_reply list buffer y = says_found (looked_up list buffer y)
