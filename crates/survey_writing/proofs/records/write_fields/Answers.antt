-- `survey_writing::records::write_fields` meets its contract. Writes one after the other are one write.
use borrow.Author.Rules.{rules}
use mathlib.Core.Path.{◌≡◌}
use lib.ListN.{length}
use Rattle.survey_roundtrip.specs.Written.{fields-written}
use Rattle.survey_writing.proofs.records.write_fields.Goals as goal

pub returns : goal.returns
returns c =
    let two : length c.args.mark ≡ 2 = search rules in
    fields-written c.args.mark c.args.out.now c.args.yard two c.copy_in.ensures c.write_u8.ensures c.write_u8-2.ensures
    c.write_u8-3.ensures c.write_u8-4.ensures
