-- A pattern without digits beside it changes nothing.
use mathlib.Core.Path.{◌∙◌}
use Rattle.exceptions.specs.Admit.{alone}
use Rattle.exceptions.proofs.admitted.admits_alone.Goals as goal

pub returns : goal.returns
returns c = let i = c.args in c.admits_pair.ensures ∙ alone i.ks.now i.pattern
