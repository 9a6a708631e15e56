-- `survey_rules::link_records::absent_costs` meets its contract: the closure reads the cost by a ceiling.
use Rattle.std.proofs.Common.{◌-◌, nat_eq, not, ◌∙◌, rules, tests, refl}
use Rattle.std.proofs.lemmas.Iterator.{YieldsList-from_range}
use Rattle.std.proofs.lemmas.Iterator.Search.{any_from_yields_List}
use Rattle.network.specs.Survey.{cost_bits_in}
use Rattle.survey_rules.specs.Read.{read-any}
use Rattle.survey_rules.proofs.link_records.absent_costs.Goals as goal

pub returns : goal.returns
returns c =
    let a = c.args in
    let r = a.link in
    any_from_yields_List (λ j. not (nat_eq (cost_bits_in r.bytes.now r.at j) 0)) _ _ c.any.result c.any.ensures.ran
    (YieldsList-from_range a.p r.slots (r.slots - a.p) refl refl) (λ x b q k. search (rules, tests))
    ∙ read-any r.slots r.bytes.now r.at a.p
