-- `survey_writing::records::write_yard` meets its contract. The link count stands behind the other fields.
use Rattle.survey_roundtrip.specs.Written.{yard-counted, yard-uncounted}
use Rattle.survey_writing.proofs.records.write_yard.Goals as goal

pub returns-in-Some : goal.returns-in-Some
returns-in-Some c =
    yard-counted c.args.l c.requires.0 c.args.yard c.args.m c.requires.2 c.args.out.now c.write_fields.ensures _ c.in-Some.is c.write_u8.ensures

pub returns-in_default : goal.returns-in_default
returns-in_default c =
    yard-uncounted c.args.l c.requires.0 c.args.yard c.args.m c.requires.2 c.args.out.now c.write_fields.ensures c.in_default.is
