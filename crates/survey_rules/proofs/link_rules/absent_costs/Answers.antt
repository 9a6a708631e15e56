-- `survey_rules::link_rules::absent_costs` meets its contract: the closure tests whether a cost is not 0.
use Rattle.std.proofs.Common.{nat_eq, not, ◌∙◌, rules, tests}
use Rattle.std.proofs.lemmas.Iterator.{YieldsList-from_slice}
use Rattle.std.proofs.lemmas.Iterator.Adapters.{YieldsList-from_skip}
use Rattle.std.proofs.lemmas.Iterator.Search.{any_from_yields_List}
use Rattle.survey_rules.specs.Absent.{absent-any}
use Rattle.survey_rules.proofs.link_rules.absent_costs.Goals as goal

pub returns : goal.returns
returns c =
    any_from_yields_List (λ b. not (nat_eq b 0)) _ _ c.any.result c.any.ensures.ran
    (YieldsList-from_skip c.args.p (YieldsList-from_slice c.args.bits.now cc) (cc)) (λ x b q k. search (rules, tests))
    ∙ absent-any c.args.p c.args.bits.now
