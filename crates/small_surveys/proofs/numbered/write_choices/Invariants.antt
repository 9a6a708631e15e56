-- The records of the links from i on are still to be written.
use Rattle.small_surveys.specs.Numbered.{ToWrite}
use Rattle.small_surveys.proofs.numbered.write_choices.Given as goal

abbrev pub invariant-loop-share : goal.invariant-loop-share
invariant-loop-share l = ToWrite l.q l.initial.at l.initial.out l.out l.at l.share-index
