-- Document 01, "Fetching plan r": numbers 12 and 13, and the link bytes of the plan as a part of the list.
use Rattle.std.specs.Prelude.{Bool, ◌||◌, cond, not, List, [], ℕ, ◌+◌, ◌*◌, eqb, ltb, drop, length, take}
use Rattle.network.specs.Limits.{max_ceilings, max_plans, max_tree}
use Rattle.network.specs.Bytes.{byte_at, mark_at, u16_at}
use Rattle.network.specs.PlanList.{head_mark, head_size, plan_mark, plan_size, plan_slots}

-- the plan count that a list head says
abbrev pub head_count : List ℕ → ℕ
head_count list = u16_at list 2

-- the t that it says
abbrev pub head_tree_size : List ℕ → ℕ
head_tree_size list = byte_at list 8

-- the p that it says
abbrev pub head_ceilings : List ℕ → ℕ
head_ceilings list = byte_at list 9

-- how many ceiling costs its plan records have room for
abbrev pub head_slots : List ℕ → ℕ
head_slots list = plan_slots (head_ceilings list)

-- where plan r's record starts: at byte 10 + r × (10 + t), and where p is 3 at byte 10 + r × (12 + t)
abbrev pub plan_start : List ℕ → ℕ → ℕ
plan_start list r = head_size + r * plan_size (head_slots list) (head_tree_size list)

-- where its link bytes start: at byte 20 + r × (10 + t), and where p is 3 at byte 22 + r × (12 + t)
abbrev pub links_start : List ℕ → ℕ → ℕ
links_start list r = plan_start list r + plan_size (head_slots list) 0

-- plan r has its mark
abbrev pub is_marked : List ℕ → ℕ → Bool
is_marked list r = mark_at list (plan_start list r) (plan_mark (head_slots list))

-- 12, whichever plan is asked for: under 10 bytes, a wrong head mark, a count over 1,600, t over 23, p over 3, or fewer bytes than the plans take
unfoldable pub damaged : List ℕ → Bool
damaged list =
    ltb (length list) head_size || not (mark_at list 0 head_mark) || ltb max_plans (head_count list) || ltb max_tree (head_tree_size list)
    || ltb max_ceilings (head_ceilings list) || ltb (length list) (plan_start list (head_count list))

-- the number: 12 if the list is damaged, then 13 if r is not below the plan count, then 12 if plan r's mark is wrong, and else 0
unfoldable pub fetch_number : List ℕ → ℕ → ℕ
fetch_number list r = cond (damaged list) 12 (cond (ltb r (head_count list)) (cond (is_marked list r) 0 12) 13)

-- the t link bytes of plan r, a part of the list; an empty part if the number is not 0
unfoldable pub fetch_links : List ℕ → ℕ → List ℕ
fetch_links list r = cond (eqb (fetch_number list r) 0) (take (head_tree_size list) (drop (links_start list r) list)) []

-- where that part starts; 0 if the number is not 0
unfoldable pub fetch_start : List ℕ → ℕ → ℕ
fetch_start list r = cond (eqb (fetch_number list r) 0) (links_start list r) 0
