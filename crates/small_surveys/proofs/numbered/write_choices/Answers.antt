use Rattle.std.proofs.Common.{refl, rules, arith}
use Rattle.small_surveys.specs.Numbered.{write-end, write-start, write-turn}
use Rattle.small_surveys.proofs.numbered.write_choices.Goals as goal

pub loop-share-init : goal.loop-share-init
loop-share-init c = write-start _ _ _ c.requires.0 (search rules)

pub write_choice-requires : goal.write_choice-requires
write_choice-requires c = (omega arith, refl, omega (arith, c.loop-share.invariant.room, c.loop-share-test.true))

pub overflow_add-at : goal.overflow_add-at
overflow_add-at c = omega (arith, c.loop-share.invariant.room, c.loop-share-test.true, c.loop-share.invariant.kept, c.well_formed)

pub loop-share-preserved : goal.loop-share-preserved
loop-share-preserved c =
    write-turn _ _ _ c.loop-share.invariant c.loop-share-test.true c.write_choice.ensures (search rules)

pub returns : goal.returns
returns c = write-end _ _ _ c.loop-share.invariant (search rules)
