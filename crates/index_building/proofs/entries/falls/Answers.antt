-- `index_building::entries::falls` meets its contract: the library tests each two neighbours.
use Rattle.std.proofs.Common.{rules, nat_lt}
use Rattle.std.proofs.lemmas.List.Sorted.{answers_always}
use Rattle.index_building.specs.Falling.{falls_by}
use Rattle.index_building.proofs.entries.falls.Goals as goal

pub returns : goal.returns
returns c =
    falls_by c.args.keys.now c.is_sorted_by.result
    (c.is_sorted_by.ensures.cases (λ x y. nat_lt y x) (answers_always _ _ _ (λ f a r g h. search rules)))
