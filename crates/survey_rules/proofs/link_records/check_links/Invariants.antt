-- The links before i are not refused.
use Rattle.std.proofs.Common.{◌≡◌}
use Rattle.network.specs.Checked.{no_refusal}
use Rattle.network.specs.Refusals.{links_checked}
use Rattle.survey_rules.proofs.link_records.check_links.Given as goal

abbrev pub invariant-loop-i : goal.invariant-loop-i
invariant-loop-i l = links_checked l.records.bytes.now l.records.layout l.i ≡ no_refusal
