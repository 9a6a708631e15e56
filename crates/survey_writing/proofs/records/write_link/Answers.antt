-- `survey_writing::records::write_link` meets its contract. Writes one after the other are one write.
use Rattle.std.proofs.Common.{◌≡◌, length, rules, arith}
use mir.Syntax.{w16, w32}
use mir.ValLaws.{to_z-of_z}
use Rattle.survey_roundtrip.specs.Written.{link-written}
use Rattle.survey_writing.specs.Figures.{link_of}
use Rattle.survey_writing.proofs.records.write_link.Goals as goal

pub returns : goal.returns
returns c =
    let g = c.args in
    let two : length g.mark ≡ 2 = search rules in
    let s = rw (to_z-of_z w32 g.link.sum (search rules)) at c.write_i32.ensures in
    let c1 = rw (to_z-of_z w16 g.link.c1 (search rules)) at c.write_i16.ensures in
    let c2 = rw (to_z-of_z w16 g.link.c2 (search rules)) at c.write_i16-2.ensures in
    link-written g.mark g.out.now g.at (link_of g.link) two (omega (arith, c.requires))
    c.copy_in.ensures c.write_u8.ensures c.write_u8-2.ensures s c1 c2
