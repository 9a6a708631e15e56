use Rattle.std.proofs.Common.{◌≡◌, ◌≤◌, ◌+◌, ap, ◌∙◌, arith, length}
use Rattle.network.specs.Writing.{Link, link_bytes}
use Rattle.buffers.specs.Overwrite.{overwrite}
use Rattle.survey_roundtrip.specs.Layouts.{written_link}
use Rattle.survey_roundtrip.specs.Written.{records-none, records-turn}
use Rattle.survey_writing.proofs.writer.write_links.Goals as goal
use Rattle.survey_writing.proofs.writer.write_links.Goals.{In-loop-i}

-- the record of link i lies inside
inside : (c : In-loop-i) → c.loop-i.at + written_link ≤ length c.args.out.now
inside c = omega (arith, c.loop-i.invariant.behind, c.requires.1)

pub loop-i-init : goal.loop-i-init
loop-i-init c = record { behind = omega arith; written = records-none _ _ _ _ _ _ }

pub write_link-requires : goal.write_link-requires
write_link-requires c = omega (arith, inside ((goal.at.write_link-requires c).In-loop-i))

pub overflow_add-at : goal.overflow_add-at
overflow_add-at c = omega (arith, inside ((goal.at.overflow_add-at c).In-loop-i), c.requires.0.link-size, c.well_formed)

pub loop-i-preserved : goal.loop-i-preserved
loop-i-preserved c =
    let so_far = c.loop-i.invariant in
    let link = c.write_link.ensures ∙ ap (λ (x : Link). overwrite c.loop-i.out c.loop-i.at (link_bytes c.args.l.link.mark x)) c.link.ensures.link in
    record {
      behind = omega (arith, so_far.behind, c.requires.0.link-size);
      written = records-turn _ _ _ _ c.requires.0.link-marked _ _ _ _ (omega (arith, c.requires.1)) so_far.behind so_far.written link;
    }

pub returns : goal.returns
returns c =
    let all : c.loop-i.i ≡ length c.args.f.sums.now = omega arith in
    rw all at c.loop-i.invariant.written
