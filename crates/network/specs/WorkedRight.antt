-- The theorem that every row of the table of worked yards is right. It is computed from the definitions.
use Rattle.order.specs.Lists.{◌∈◌}
use Rattle.network.specs.Worked.{Right, Row, Work}

-- every row of a yard is right
abbrev pub AllRight : Work → Type 0
AllRight w = (r : Row) → r ∈ w.rows → Right r
