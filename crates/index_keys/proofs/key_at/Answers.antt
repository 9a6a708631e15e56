-- `index_keys::key_at` meets its contract. By whether the list has a ceiling.
use mathlib.Core.Path.{refl, ◌∙◌}
use Rattle.index_keys.specs.Key.{key-all, key-sum, raised}
use Rattle.index_keys.proofs.key_at.Goals as goal

pub returns-then-list-eq0 : goal.returns-then-list-eq0
unfolding raised
returns-then-list-eq0 c =
    c.packed.ensures ∙ key-sum _ _ c.read_u32.ensures refl c.if-list-eq0.true

pub returns : goal.returns
unfolding raised
returns c =
    c.packed-2.ensures
    ∙ key-all _ _ c.read_u32.ensures refl c.if-list-eq0.false
    c.read_u16.ensures c.raised16-y1.ensures c.read_u16-2.ensures c.raised16-y2.ensures
