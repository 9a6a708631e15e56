-- The figures before i are those of their links.
use Rattle.std.proofs.Common.{ℕ, ◌<◌, get_or}
use Rattle.survey_decoding.proofs.columns.fill_column.Given as goal

abbrev pub invariant-loop-i : goal.invariant-loop-i
invariant-loop-i g l = (k : ℕ) (d : g.row.T.Denot) → k < l.i → goal.F-post g l.figure k (get_or l.column k d)
