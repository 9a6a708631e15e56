-- The ends of the links before i stand at the front of the column.
use Rattle.std.proofs.Common.{◌≡◌, ◌*◌, take}
use Rattle.network.specs.Survey.{ends_in}
use Rattle.survey_decoding.proofs.columns.decode_ends.Given as goal

abbrev pub invariant-loop-i : goal.invariant-loop-i
invariant-loop-i l = take (2 * l.i) l.ends ≡ ends_in l.records.layout l.records.bytes.now l.i
