-- The links before i are not refused, and fit their bytes.
use Rattle.std.proofs.Common.{◌≡◌, ◌<◌, ℕ}
use Rattle.network.specs.Checked.{no_refusal}
use Rattle.network.specs.Writing.{link_from}
use Rattle.survey_roundtrip.specs.Columns.{columns_checked}
use Rattle.survey_roundtrip.specs.Fields.{Fitting}
use Rattle.survey_writing.proofs.figures.check_links.Given as goal

abbrev pub invariant-loop-i : goal.invariant-loop-i
invariant-loop-i l =
    record {
      checked : columns_checked l.f.yard l.f.ends.now l.f.sums.now l.f.costs.now l.i ≡ no_refusal;
      fits : (j : ℕ) → j < l.i → Fitting (link_from 0 l.f.ends.now l.f.sums.now l.f.costs.now j);
    }
