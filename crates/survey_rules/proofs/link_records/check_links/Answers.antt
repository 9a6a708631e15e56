-- The first refusal is that of all links.
use Rattle.std.proofs.Common.{◌≡◌, refl, sym, ◌∙◌, ap, rules, arith}
use Rattle.std.proofs.Common.{Err}
use Rattle.network.specs.Checked.{first_refusal}
use Rattle.network.proofs.CheckedLaws.{first_more, first_found}
use Rattle.survey_rules.proofs.link_records.check_links.Goals as goal

pub loop-i-init : goal.loop-i-init
unfolding first_refusal
loop-i-init c = refl

pub returns-in_err-check_link : goal.returns-in_err-check_link
returns-in_err-check_link c =
    let found = sym c.check_link.ensures ∙ c.in_err-check_link.was in
    let same : c.from_residual.result ≡ Err c.in_err-check_link.field-0.0 = search rules in
    same ∙ sym (first_found _ _ _ c.loop-i.invariant (rw (c.link.ensures.0, c.link.ensures.1, c.link.ensures.2) at found) _ c.loop-i-test.true)

pub loop-i-preserved : goal.loop-i-preserved
loop-i-preserved c =
    let fine = sym c.check_link.ensures ∙ c.in_ok-check_link.was in
    first_more _ _ c.loop-i.invariant (rw (c.link.ensures.0, c.link.ensures.1, c.link.ensures.2) at fine)

pub returns : goal.returns
returns c = sym c.loop-i.invariant ∙ ap (first_refusal _) (omega arith)
