-- `index_lookup::testing::stands_before` meets its contract. By the two keys, then by the numbers.
use Rattle.std.proofs.Common.{◌∙◌}
use Rattle.index_lookup.specs.Known.{before-by}
use Rattle.index_lookup.proofs.testing.stands_before.Goals as goal

pub returns : goal.returns
returns c = let a = c.args in c.lt.ensures ∙ before-by a.keys.now a.a a.b
