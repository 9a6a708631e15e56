-- What taking a plan in asks of the bytes that hold the frontier, and what it leaves of them.
use Rattle.std.specs.Prelude.{List, ◌∷◌, ◌≡◌, ℕ, ◌+◌, ◌*◌, ◌≤◌, ◌<◌, length}
use Rattle.network.specs.PlanList.{plan_bytes, plan_size}
use Rattle.network.specs.declared.Costs.{Costs}
use Rattle.planlist_records.specs.Held.{Writable}
use Rattle.planlist_records.specs.Records.{plan_records}
use Rattle.planlist_frontier.specs.Pruned.{pruned_level}
use Rattle.planlist_frontier.specs.Insertion.{RecordsRise, insert_record}
use Rattle.planlist_frontier.specs.Level.{Level}

-- a plan with the costs v and t links can be taken into the first `count` records of bs: a record can hold it, one more has room, they rise, and v
-- compares with none of another sum
pub record Insertable (slots : ℕ) (v : Costs) (t count : ℕ) (bs : List ℕ) : Type 0 where
  pub writable : Writable slots v
  pub few-links : t < 256
  pub room : (count + 1) * plan_size slots t ≤ length bs
  pub rise : RecordsRise slots (plan_records slots t count bs)
  pub level : Level slots v (plan_records slots t count bs)

-- the first r records of bs' are the first `count` of bs with the plan inserted, whose costs a record can hold
pub record Inserted (slots : ℕ) (v : Costs) (links : List ℕ) (count : ℕ) (bs : List ℕ) (r : ℕ) (bs' : List ℕ) : Type 0 where
  pub writable : Writable slots v
  pub few : r ≤ count + 1
  pub records-are : plan_records slots (length links) r bs' ≡ insert_record slots (plan_bytes slots v links) (plan_records slots (length links) count bs)

-- the first r records of bs' are the plan, and then the first `count` of bs that v does not replace
pub record PutInFront (slots : ℕ) (v : Costs) (links : List ℕ) (count : ℕ) (bs : List ℕ) (r : ℕ) (bs' : List ℕ) : Type 0 where
  pub few : r ≤ count + 1
  pub records-are : plan_records slots (length links) r bs' ≡ plan_bytes slots v links ∷ pruned_level slots v (plan_records slots (length links) count bs)
