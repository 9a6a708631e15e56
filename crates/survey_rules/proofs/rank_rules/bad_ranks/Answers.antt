-- `survey_rules::rank_rules::bad_ranks` meets its contract. By what `any_bad_rank` and `slack_of` ensure.
use Rattle.network.specs.Refusals.{bad_ranks}
use Rattle.survey_rules.proofs.rank_rules.bad_ranks.Goals as goal

pub returns : goal.returns
unfolding bad_ranks
returns c = rw (c.any_bad_rank.ensures, c.slack_of.ensures)
