-- `small_surveys::choices::write_choice` meets its contract: its three writes are the record of the choice.
use borrow.Author.Rules.{rules}
use Rattle.small_surveys.specs.Choices.{choice-written}
use Rattle.small_surveys.proofs.choices.write_choice.Goals as goal

pub returns : goal.returns
returns c =
    choice-written _ _ _ _ (search rules) (search rules) (search rules) c.copy_in.ensures c.write_u32.ensures c.write_u32-2.ensures
