-- `survey_writing::writer::write_full` meets its contract. By the verdict on the links and the length of the output.
use Rattle.std.proofs.Common.{◌≡◌, sym, ◌∙◌, rules, Err}
use Rattle.survey_writing.specs.Filled.{full-fine, full-refused, full-room, full-short}
use Rattle.survey_writing.proofs.writer.write_full.Goals as goal

pub returns-in_err-check_links : goal.returns-in_err-check_links
returns-in_err-check_links c =
    let g = c.args.f in
    let found = c.check_links.ensures in
    let done = full-refused c.args.l c.requires c.args.f.yard g.ends.now g.sums.now g.costs.now found.verdict c.args.out.now _ c.in_err-check_links.was in
    let same : c.from_residual.result ≡ Err c.in_err-check_links.field-0.0 = search rules in
    record { reply = same ∙ done.0; leaves = done.1; met = found.met }

pub returns-in_err-refuse_if : goal.returns-in_err-refuse_if
returns-in_err-refuse_if c =
    let g = c.args.f in
    let found = c.check_links.ensures in
    let done = full-short c.args.l c.requires c.args.f.yard g.ends.now g.sums.now g.costs.now found.verdict c.args.out.now c.in_ok-check_links.was _
    (sym c.refuse_if.ensures ∙ c.in_err-refuse_if.was) in
    let same : c.from_residual-in_err-refuse_if.result ≡ Err c.in_err-refuse_if.field-0.0 = search rules in
    record { reply = same ∙ done.0; leaves = done.1; met = found.met }

pub write_records-requires : goal.write_records-requires
write_records-requires c =
    let g = c.args.f in
    let room = full-room c.args.l c.requires c.args.f.yard g.ends.now g.sums.now g.costs.now c.check_links.ensures.verdict c.args.out.now c.in_ok-check_links.was
    (sym c.refuse_if.ensures ∙ c.in_ok-refuse_if.was) in
    (c.requires, rw (← c.requires.link-size) room)

pub returns : goal.returns
returns c =
    let g = c.args.f in
    let found = c.check_links.ensures in
    let done = full-fine c.args.l c.requires c.args.f.yard g.ends.now g.sums.now g.costs.now found.verdict c.args.out.now c.in_ok-check_links.was
    (sym c.refuse_if.ensures ∙ c.in_ok-refuse_if.was) c.write_records.ensures in
    record { reply = done.0; leaves = done.1; met = found.met }
