-- The sum costs before i stand in the column.
use Rattle.std.proofs.Common.{◌≡◌}
use Rattle.survey_roundtrip.specs.Columns.{sums_to}
use Rattle.survey_writing.proofs.padding.full_sums.Given as goal

abbrev pub invariant-loop-i : goal.invariant-loop-i
invariant-loop-i l = l.sum-items ≡ sums_to l.p l.sums l.given l.i
