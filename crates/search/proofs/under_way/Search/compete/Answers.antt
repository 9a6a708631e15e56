-- A trial that contends is offered.
use Rattle.std.proofs.Common.{sym, ◌∙◌}
use Rattle.search.proofs.under_way.Search.compete.Goals as goal

pub returns-then-contends : goal.returns-then-contends
returns-then-contends c = rw (sym c.contends.ensures ∙ c.if-contends.true) c.offer.ensures

pub returns-else-contends : goal.returns-else-contends
returns-else-contends c = rw (sym c.contends.ensures ∙ c.if-contends.false)
