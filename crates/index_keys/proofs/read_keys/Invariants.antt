-- `index_keys::read_keys` meets its contract. The invariant: the plans before r have their marks, and the first r keys are theirs.
use Rattle.index_keys.specs.Reading.{Reading}
use Rattle.index_keys.proofs.read_keys.Given as goal

abbrev pub invariant-loop-key : goal.invariant-loop-key
invariant-loop-key l = Reading l.list l.key-items l.at l.key-index
