-- The records of the links before i stand behind the yard record.
use Rattle.std.proofs.Common.{◌≡◌, ◌+◌, ◌*◌}
use Rattle.buffers.specs.Overwrite.{overwrite}
use Rattle.survey_roundtrip.specs.Layouts.{written_link}
use Rattle.survey_roundtrip.specs.Written.{records_to}
use Rattle.survey_writing.proofs.writer.write_links.Given as goal

abbrev pub invariant-loop-i : goal.invariant-loop-i
invariant-loop-i l =
    record {
      behind : l.at ≡ l.l.yard.size + l.i * written_link;
      written : l.out
          ≡ overwrite l.initial.out l.l.yard.size (records_to l.l.link.mark l.f.ends.now l.f.sums.now l.f.costs.now l.i);
    }
