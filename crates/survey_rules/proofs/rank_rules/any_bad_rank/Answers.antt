-- `survey_rules::rank_rules::any_bad_rank` meets its contract: the closure tests each rank beside its place.
use Rattle.std.proofs.Common.{◌∙◌, rules, tests}
use Rattle.std.proofs.lemmas.Iterator.{YieldsList-from_slice}
use Rattle.std.proofs.lemmas.Iterator.Consumers.{YieldsList-from_enumerate}
use Rattle.std.proofs.lemmas.Iterator.Search.{any_from_yields_List}
use Rattle.network.specs.Refusals.{bad_rank}
use Rattle.survey_rules.specs.Tried.{tried-any}
use Rattle.survey_rules.proofs.rank_rules.any_bad_rank.Goals as goal

pub returns : goal.returns
returns c =
    let a = c.args in
    any_from_yields_List (λ q. bad_rank a.n a.p q.0 q.1) _ _ c.any.result c.any.ensures.ran
    (YieldsList-from_enumerate (YieldsList-from_slice a.ks.now cc) (cc)) (λ x b q k. search (rules, tests))
    ∙ tried-any a.n a.p 0 a.ks.now
