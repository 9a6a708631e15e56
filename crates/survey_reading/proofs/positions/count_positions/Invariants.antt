-- After so many turns the values of so many ceilings are counted, and the costs by the others are left.
use Rattle.std.proofs.Common.{◌≡◌, ◌*◌, length, drop}
use Rattle.frontier.specs.Frontier.{product}
use Rattle.network.specs.Capacities.{links_held}
use Rattle.network.specs.Yard.{usable_at}
use Rattle.marking.specs.Parts.{ceiling_values}
use Rattle.survey_reading.proofs.positions.count_positions.Given as goal

abbrev pub invariant-loop : goal.invariant-loop
invariant-loop l =
    record {
      room : length l.values ≡ links_held;
      others : l.left ≡ drop (l.counter * l.m) l.costs;
      counted : l.total ≡ product (ceiling_values (usable_at l.shape.rest l.ends) l.counter l.m l.costs);
    }
