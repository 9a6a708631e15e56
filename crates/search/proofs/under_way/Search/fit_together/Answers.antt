-- Both tests, one after the other.
use mathlib.Core.Bool.{not}
use Rattle.std.proofs.Common.{sym, ap, ◌∙◌}
use Rattle.search.specs.Begun.{fitting-admitted, fitting-barred}
use Rattle.search.proofs.under_way.Search.fit_together.Goals as goal

pub returns-then-admits_pair : goal.returns-then-admits_pair
returns-then-admits_pair c =
    ap not c.is_ring.ensures ∙ fitting-admitted _ _ _ _ _ _ (sym c.admits_pair.ensures ∙ c.if-admits_pair.true)

pub returns-else-admits_pair : goal.returns-else-admits_pair
returns-else-admits_pair c =
    c.if-admits_pair.false ∙ fitting-barred _ _ _ _ _ _ (sym c.admits_pair.ensures ∙ c.if-admits_pair.false)
