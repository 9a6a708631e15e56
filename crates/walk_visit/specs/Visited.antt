-- What solving a position asks of the records of plans, and what it leaves.
use mathlib.Core.List.{List, []}
use Rattle.std.proofs.Math.Option.{Option, none, some}
use Rattle.std.specs.Prelude.{Bool, Ok, ◌≡◌, ℕ, ◌+◌, ◌*◌, ◌≤◌, ◌<◌, pos, get_or, length, take}
use Rattle.std.proofs.Math.Path.{refl, ap, ap₂, subst⁻¹}
use Rattle.std.proofs.Common.{sym, ◌∙◌, arith, length-take-le}
use Rattle.network.specs.Calls.{tree_with}
use Rattle.network.specs.Capacities.{ceilings_held}
use Rattle.network.specs.PlanList.{costs_of, head_size, plan_bytes, plan_size, plan_slots, record_of}
use Rattle.network.specs.Walk.{positions}
use Rattle.network.specs.Yard.{tree_size, yard}
use Rattle.network.specs.Checked.{Answer}
use Rattle.network.specs.declared.Costs.{Costs}
use Rattle.network.specs.Network.{Network}
use Rattle.planlist_frontier.specs.Insertion.{RecordsRise, insert_record}
use Rattle.planlist_frontier.specs.Level.{Level}
use Rattle.planlist_records.specs.Held.{Writable}
use Rattle.solver.specs.Question.{answer-found, answer_of, best-length, tree-front}
use Rattle.marking.specs.Settle.{Settled}
use Rattle.walk_visit.specs.Answered.{Taken, Takes, records_in, with_plan}
use Rattle.walk_visit.specs.Visit.{best_at}

module _ (net : Network) where
  -- how many ceiling costs its records have room for
  abbrev pub slots_of : ℕ
  slots_of = plan_slots net.p

  -- the first `count` records of a list buffer
  abbrev pub records_of : ℕ → List ℕ → List (List ℕ)
  records_of count bs = records_in slots_of (tree_size net) count bs

  -- the records with an answer's taken in
  abbrev pub take_record : Option (List ℕ) → List (List ℕ) → List (List ℕ)
  take_record none rs = rs
  take_record (some ts) rs = insert_record slots_of (record_of net ts) rs

  -- what solving position n does to the marks ms and to the `count` records of bs
  pub record Visited (n : ℕ) (ms ms' : List Bool) (bs bs' : List ℕ) (count count' : ℕ) : Type 0 where
    pub marks : Settled (yard net) n (best_at net n) ms ms'
    pub records : records_of count' bs' ≡ take_record (best_at net n) (records_of count bs)
    pub writable : (ts : List ℕ) → best_at net n ≡ some ts → Writable slots_of (costs_of net ts)
    pub bounded : count' ≤ count + 1

  -- what taking in the plan of position n asks of them: room for one more; they rise; it compares with none of another sum; and
  -- it has no cost that a record has no room for
  pub record Prepared (n : ℕ) (bs : List ℕ) (count : ℕ) : Type 0 where
    pub few : slots_of ≤ ceilings_held
    pub few-links : tree_size net < 256
    pub room : head_size + (count + 1) * plan_size slots_of (tree_size net) ≤ length bs
    pub rise : RecordsRise slots_of (records_of count bs)
    pub level : (ts : List ℕ) → best_at net n ≡ some ts → Level slots_of (costs_of net ts) (records_of count bs)
    pub absent : (ts : List ℕ) → best_at net n ≡ some ts → (j : ℕ) → slots_of ≤ j → get_or (costs_of net ts).y j (pos 0) ≡ pos 0

  -- Position n has the answer a, and left the tree buffer so; the links are the first t bytes there.
  module _ (n : ℕ) {a : Answer} (answered : a ≡ answer_of net (best_at net n)) (tree : List ℕ) {left : List ℕ}
      (leaves : left ≡ tree_with (best_at net n) tree) (room : tree_size net ≤ length left) where
    abbrev links : List ℕ
    links = take (tree_size net) left

    size : length links ≡ tree_size net
    size = length-take-le (tree_size net) left room

    -- they are those of the best tree
    links-are : (ts : List ℕ) → best_at net n ≡ some ts → links ≡ ts
    links-are ts e =
        ap₂ (λ (k : ℕ) (l : List ℕ). take k l) (sym (best-length net (get_or (positions net) n []) ts e)) leaves ∙ tree-front (best_at net n) ts tree e

    -- its plan can be taken in
    pub takes : {bs : List ℕ} {count : ℕ} → Prepared n bs count → Takes slots_of a links count bs
    takes {bs} {count} p =
        let e = ap (λ (t : ℕ). (count + 1) * plan_size slots_of t) size in
        record {
          few = p.few;
          few-links = omega (arith, p.few-links, size);
          room = omega (arith, p.room);
          rise = subst⁻¹ (λ (t : ℕ). RecordsRise slots_of (records_in slots_of t count bs)) size p.rise;
          level = λ v q.
              let f = answer-found net (best_at net n) answered q in
              subst⁻¹ (λ (t : ℕ). Level slots_of v (records_in slots_of t count bs)) size
              (subst⁻¹ (λ (w : Costs). Level slots_of w (records_of count bs)) f.costs-are (p.level f.tree f.best-is));
          absent = λ v q j h.
              let f = answer-found net (best_at net n) answered q in
              ap (λ (w : Costs). get_or w.y j (pos 0)) f.costs-are ∙ p.absent f.tree f.best-is j h;
        }

    plan-is : (ts : List ℕ) → best_at net n ≡ some ts → a ≡ Ok (costs_of net ts)
    unfolding answer_of
    plan-is ts e = answered ∙ ap (answer_of net) e

    with-plan : (rs : List (List ℕ)) → with_plan slots_of a links rs ≡ take_record (best_at net n) rs
    unfolding with_plan answer_of
    with-plan rs = ap (λ (b : Answer). with_plan slots_of b links rs) answered ∙ go (best_at net n) links-are
      where
        go : (o : Option (List ℕ)) → ((ts : List ℕ) → o ≡ some ts → links ≡ ts) → with_plan slots_of (answer_of net o) links rs ≡ take_record o rs
        go none l = refl
        go (some ts) l =
            ap (λ (k : List ℕ). insert_record slots_of (plan_bytes slots_of (costs_of net ts) k) rs) (l ts refl)

    -- and then the position is visited
    pub visited : {ms ms' : List Bool} {bs bs' : List ℕ} {count count' : ℕ} → Settled (yard net) n (best_at net n) ms ms' → Taken slots_of a links count count' bs bs'
        → Visited n ms ms' bs bs' count count'
    visited {bs = bs} {bs' = bs'} {count = count} {count' = count'} m t =
        record {
          marks = m;
          records = ap (λ (k : ℕ). records_in slots_of k count' bs') (sym size) ∙ t.records ∙ with-plan (records_in slots_of (length links) count bs)
              ∙ ap (λ (k : ℕ). take_record (best_at net n) (records_in slots_of k count bs)) size;
          writable = λ ts e. t.writable (costs_of net ts) (plan-is ts e);
          bounded = t.bounded;
        }
