-- `index_lookup::testing::all_below` meets its contract: the closure reads an entry.
use Rattle.std.proofs.Common.{refl, rules, tests, ◌*◌, ◌∙◌, arith}
use Rattle.std.proofs.lemmas.Iterator.{YieldsList-from_range}
use Rattle.std.proofs.lemmas.Iterator.Search.{all_from_yields_List}
use Rattle.std.specs.Prelude.{ltb}
use Rattle.network.specs.Bytes.{u16_at}
use Rattle.index_lookup.specs.Entries.{read-all}
use Rattle.index_lookup.proofs.testing.all_below.Goals as goal

pub returns : goal.returns
returns c =
    let a = c.args in
    all_from_yields_List (λ r. ltb (u16_at a.index.now (r * 2)) a.n) _ _ c.all.result c.all.ensures.ran
    (YieldsList-from_range 0 a.n a.n refl (omega arith)) (λ x b q k. search (rules, tests))
    ∙ read-all a.index.now a.n (λ x. ltb x a.n)
