-- `survey_writing::writer::write_records` meets its contract: one record after the other.
use Rattle.survey_writing.specs.Filled.{survey-written}
use Rattle.survey_writing.proofs.writer.write_records.Goals as goal

pub returns : goal.returns
returns c =
    let g = c.args.f in
    survey-written c.args.l c.requires.0 c.args.f.yard g.ends.now g.sums.now g.costs.now g.full c.args.out.now c.write_yard.ensures c.write_links.ensures
