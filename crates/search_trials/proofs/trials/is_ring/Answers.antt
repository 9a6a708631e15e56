-- Two links are a ring where the first makes the ends of the second one group.
use mathlib.Core.Path.{◌∙◌}
use Rattle.search_trials.specs.Grows.{ring-group}
use Rattle.search_trials.proofs.trials.is_ring.Goals as goal

pub returns : goal.returns
returns c =
    let i = c.args in
    rw (c.ends_of-a.ensures.0, c.ends_of-a.ensures.1, c.ends_of-u.ensures.0, c.ends_of-u.ensures.1) at c.one_group.ensures
    ∙ ring-group i.ends.now i.link i.other
