-- The costs by the ceilings before i stand at the front of the column, and those by ceiling i go behind them.
use Rattle.std.proofs.Common.{◌≡◌, ◌*◌, take}
use Rattle.network.specs.Survey.{costs_in}
use Rattle.survey_decoding.proofs.columns.decode_costs.Given as goal

abbrev pub invariant-loop-i : goal.invariant-loop-i
invariant-loop-i l =
    record { behind : l.from ≡ l.i * l.records.m; decoded : take l.from l.costs ≡ costs_in l.records.layout l.records.bytes.now l.records.m l.i }
