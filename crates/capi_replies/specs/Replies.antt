-- The replies of document 01 as C sees them: plain numbers in a struct.
use Rattle.std.specs.Prelude.{List, [], ◌∷◌, ◌≡◌, refl, ℕ, ℤ, pos, get_or, take}
use Rattle.std.proofs.Common.{ap}
use Rattle.network.specs.AnswerPromise.{BestPromised, JudgePromised}
use Rattle.network.specs.Calls.{Reply as Answered, cost_values, says}
use Rattle.network.specs.Network.{Network}
use Rattle.network.specs.PlanList.{costs_of}
use Rattle.network.specs.Survey.{network_of}
use Rattle.network.specs.Tabulate.{tabulate}
use Rattle.network.specs.Yard.{tree_size}
use Rattle.network.specs.Checked.{Answer, number_of}
use Rattle.network.specs.declared.Costs.{Costs}
use Rattle.std.specs.Prelude.{Ok, Err}
use Rattle.network.specs.declared.refusals.Refusal.{Refusal}
use Rattle.capi_replies.specs.declared.reply.Reply.{Reply}

-- value i of a reply: the plan's sum, y1, y2 or y3; 0 where the reply is a refusal
abbrev pub value_at : Answered → ℕ → ℤ
value_at a i = get_or a.values i (pos 0)

-- the reply of the judge or of the ceilings question: number, place and the plan's costs, which are 0 on a refusal
unfoldable pub flat_reply : Answered → Reply
flat_reply a = record { number = a.number; place = a.place; sum = value_at a 0; y1 = value_at a 1; y2 = value_at a 2; y3 = value_at a 3 }

-- the costs in a reply for C: sum, y1, y2, y3
abbrev pub flat_values : Reply → List ℤ
flat_values r = r.sum ∷ r.y1 ∷ r.y2 ∷ r.y3 ∷ []

-- the costs in a reply for C, whose ceiling costs stand one by one, with these as a list
abbrev pub together : Reply → Costs
together r = record { sum = r.sum; y = r.y1 ∷ r.y2 ∷ r.y3 ∷ [] }

-- and costs with their ceiling costs one by one
abbrev pub apart : Costs → Reply
apart v = flat_reply (says (Ok v))

-- no cost of a tree is lost where a reply holds them one by one
pub together-apart : (net : Network) (ts : List ℕ) → together (apart (costs_of net ts)) ≡ costs_of net ts
unfolding flat_reply says tabulate
together-apart net ts = refl

-- the costs of a tree are handed on, all of them
flat-costs : (net : Network) (ts : List ℕ) (a : Answered) → a.values ≡ cost_values (costs_of net ts) → flat_values (flat_reply a) ≡ cost_values (costs_of net ts)
unfolding flat_reply tabulate
flat-costs net ts a e = ap (λ (vs : List ℤ). get_or vs 0 (pos 0) ∷ get_or vs 1 (pos 0) ∷ get_or vs 2 (pos 0) ∷ get_or vs 3 (pos 0) ∷ []) e

-- what an answer promises, its reply for C promises too: of the ceilings question,
pub flat-best : (s : List ℕ) (given : List ℤ) (tree left : List ℕ) (a : Answered) → BestPromised s given tree a.number a.values left
    → BestPromised s given tree (flat_reply a).number (flat_values (flat_reply a)) left
unfolding flat_reply
flat-best s given tree left a h =
    record {
      answers = λ fine room.
          let w = h.answers fine room in
          let links = take (tree_size (network_of s)) left in
          record { either = w.either; found = w.found; costs = λ e. flat-costs (network_of s) links a (w.costs e); none = w.none };
    }

-- and of the judge
pub flat-judge : (s drawn : List ℕ) (a : Answered) → JudgePromised s drawn a.number a.values
    → JudgePromised s drawn (flat_reply a).number (flat_values (flat_reply a))
unfolding flat_reply
flat-judge s drawn a h =
    record {
      judges = λ fine.
          let w = h.judges fine in
          record { exactly = w.exactly; costs = λ e. flat-costs (network_of s) drawn a (w.costs e); otherwise = w.otherwise };
    }

-- ---- the two cases of an answer

pub flat-plan : (a : Answer) (v : Costs) → a ≡ Ok v
    → record { number = 0; place = 0; sum = v.sum; y1 = get_or v.y 0 (pos 0); y2 = get_or v.y 1 (pos 0); y3 = get_or v.y 2 (pos 0) } ≡ flat_reply (says a)
unfolding flat_reply says
flat-plan a v e = rw e

pub flat-refused : (a : Answer) (r : Refusal) → a ≡ Err r
    → record { number = number_of r.rule; place = r.place; sum = pos 0; y1 = pos 0; y2 = pos 0; y3 = pos 0 } ≡ flat_reply (says a)
unfolding flat_reply says
flat-refused a r e = rw e
