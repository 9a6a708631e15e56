-- The base's links that the trial keeps have their flags, then its exceptions.
use Rattle.search_trials.specs.Marks.{none-set, one-set, two-set}
use Rattle.search_trials.proofs.basis.Basis.put_flags.Goals as goal

pub returns-in-Empty : goal.returns-in-Empty
returns-in-Empty c = none-set _ _ c.put_kept.ensures c.in-Empty.is

pub returns-in-One : goal.returns-in-One
returns-in-One c = one-set _ _ c.put_kept.ensures c.in-One.is

pub returns-in-Two : goal.returns-in-Two
returns-in-Two c = two-set _ _ c.put_kept.ensures c.in-Two.is
