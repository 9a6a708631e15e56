-- `index_lookup::testing::rises` meets its contract: the closure reads an entry and the one before it.
use Rattle.std.proofs.Common.{refl, rules, tests, ◌*◌, ◌-◌, ◌∙◌, arith}
use Rattle.std.proofs.lemmas.Iterator.{YieldsList-from_range, serves_from_Range}
use Rattle.std.proofs.lemmas.Iterator.Search.{all_from_yields_List}
use Rattle.network.specs.Bytes.{u16_at}
use Rattle.index_lookup.specs.Entries.{entry-below, read-rises}
use Rattle.index_lookup.specs.Known.{key_before}
use Rattle.index_lookup.proofs.testing.rises.Goals as goal

pub all-requires-clause-callable : goal.all-requires-clause-callable
all-requires-clause-callable c =
    let a = c.args in
    serves_from_Range (λ x q k. search (rules, tests))
    (λ x from to.
    let before = entry-below a.index.now a.n 0 (x - 1) c.requires.1 (omega arith) in
    let here = entry-below a.index.now a.n 0 x c.requires.1 (omega arith) in
    search (rules, arith))

pub returns : goal.returns
returns c =
    let a = c.args in
    let before = key_before a.keys.now in
    all_from_yields_List (λ r. before (u16_at a.index.now ((r - 1) * 2)) (u16_at a.index.now (r * 2))) _ _ c.all.result c.all.ensures.ran
    (YieldsList-from_range 1 _ (a.n - 1) refl (omega arith)) (λ x b q k. search (rules, tests))
    ∙ read-rises a.index.now a.n before
