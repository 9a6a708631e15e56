-- What an answer at a position does to the marks and to the records of plans, by its costs alone.
use Rattle.std.specs.Prelude.{Bool, Ok, Err, List, ◌≡◌, ℕ, ◌+◌, ◌*◌, ◌≤◌, ◌<◌, ℤ, pos, drop, get_or, length, take}
use Rattle.std.proofs.Math.Path.{sym}
use Rattle.std.proofs.Common.{ap, ◌∙◌, subst, arith}
use Rattle.network.specs.Capacities.{ceilings_held}
use Rattle.network.specs.PlanList.{head_size, plan_bytes, plan_size}
use Rattle.network.specs.Checked.{Answer}
use Rattle.network.specs.declared.Costs.{Costs}
use Rattle.network.specs.declared.refusals.Refusal.{Refusal}
use Rattle.network.specs.declared.Shape.{Shape}
use Rattle.encoding.specs.Blocks.{blocks}
use Rattle.planlist_frontier.specs.Insertion.{RecordsRise, insert_record}
use Rattle.planlist_frontier.specs.Level.{Level}
use Rattle.planlist_records.specs.Held.{Writable}
use Rattle.marking.specs.Paint.{paint}
use Rattle.marking.specs.Sides.{Inside}
use Rattle.marking.specs.declared.mark.Side.{Side}
use Rattle.marking.specs.Gridded.{Held}
use Rattle.marking.specs.declared.grid.Grid.{Grid}
use Rattle.walk_visit.specs.Found.{Parted, Placed, last_sides, own_sides}

-- ---- marks

-- the sides of the box that an answer settles from some places on: through the places of a plan's own costs, or else to the last places
unfoldable pub sides_by : Shape → List ℤ → Grid → List ℕ → Answer → List Side
sides_by shape values grid places (Ok v) = own_sides shape.m values (take shape.p grid.sides) places (take shape.p v.y)
sides_by shape values grid places (Err r) = last_sides (take shape.p grid.sides) places

-- the marks ms and those that an answer at position n sets
unfoldable pub settled_by : Shape → List ℤ → Grid → List ℕ → ℕ → Answer → List Bool → List Bool
settled_by shape values grid places n a ms = paint (sides_by shape values grid places a) n ms

-- places in the ceilings of a grid
pub record Partable (shape : Shape) (values : List ℤ) (grid : Grid) (places : List ℕ) : Type 0 where
  pub ceilings : shape.p ≤ ceilings_held
  pub held : Held grid
  pub placed : Placed (take shape.p grid.sides) places
  pub parted : Parted shape.m values (take shape.p grid.sides)

-- what setting them asks: such places, and a box that lies inside `size` marks
pub record Reaches (shape : Shape) (values : List ℤ) (grid : Grid) (places : List ℕ) (n : ℕ) (a : Answer) (size : ℕ) : Type 0 where
  pub places-are : Partable shape values grid places
  pub inside : Inside (sides_by shape values grid places a) n size

-- ---- records

-- the first `count` records of t links in a list buffer, with room for so many ceiling costs, behind the place of the head
abbrev pub records_in : ℕ → ℕ → ℕ → List ℕ → List (List ℕ)
records_in slots t count bs = blocks (plan_size slots t) count (drop head_size bs)

-- the records rs with the plan of an answer taken in
unfoldable pub with_plan : ℕ → Answer → List ℕ → List (List ℕ) → List (List ℕ)
with_plan slots (Ok v) links rs = insert_record slots (plan_bytes slots v links) rs
with_plan slots (Err r) links rs = rs

-- what that asks of the `count` records of bs: room for one more; they rise; the plan compares with none of another sum, and has no cost that a record
-- has no room for
pub record Takes (slots : ℕ) (a : Answer) (links : List ℕ) (count : ℕ) (bs : List ℕ) : Type 0 where
  pub few : slots ≤ ceilings_held
  pub few-links : length links < 256
  pub room : head_size + (count + 1) * plan_size slots (length links) ≤ length bs
  pub rise : RecordsRise slots (records_in slots (length links) count bs)
  pub level : (v : Costs) → a ≡ Ok v → Level slots v (records_in slots (length links) count bs)
  pub absent : (v : Costs) → a ≡ Ok v → (j : ℕ) → slots ≤ j → get_or v.y j (pos 0) ≡ pos 0

-- what it leaves in bs'; a record can hold the plan's costs
pub record Taken (slots : ℕ) (a : Answer) (links : List ℕ) (count count' : ℕ) (bs bs' : List ℕ) : Type 0 where
  pub bounded : count' ≤ count + 1
  pub records : records_in slots (length links) count' bs' ≡ with_plan slots a links (records_in slots (length links) count bs)
  pub writable : (v : Costs) → a ≡ Ok v → Writable slots v

-- no plan, and a plan v
pub none-taken : (slots : ℕ) {a : Answer} {r : Refusal} (links : List ℕ) (count : ℕ) (bs : List ℕ) → a ≡ Err r → Taken slots a links count count bs bs
unfolding with_plan
none-taken slots {a} links count bs e =
    record {
      bounded = omega arith;
      records = sym (ap (λ (b : Answer). with_plan slots b links (records_in slots (length links) count bs)) e);
      writable = λ v q. let z : ◌≡◌ {A = ℕ} 0 1 = cc in absurd (omega arith);
    }

pub plan-taken : {slots : ℕ} {a : Answer} {v : Costs} {links : List ℕ} {count count' : ℕ} {bs bs' : List ℕ} → a ≡ Ok v → Writable slots v
    → count' ≤ count + 1
    → records_in slots (length links) count' bs' ≡ insert_record slots (plan_bytes slots v links) (records_in slots (length links) count bs)
    → Taken slots a links count count' bs bs'
unfolding with_plan
plan-taken {slots} {a} {v} {links} {count} {count'} {bs} {bs'} e fits few new =
    record {
      bounded = few;
      records = new ∙ sym (ap (λ (b : Answer). with_plan slots b links (records_in slots (length links) count bs)) e);
      writable = λ w q. subst (Writable slots) (plan-one (sym e ∙ q)) fits;
    }
  where
    plan-one : {u w : Costs} → ◌≡◌ {A = Answer} (Ok u) (Ok w) → u ≡ w
    plan-one q = cc
