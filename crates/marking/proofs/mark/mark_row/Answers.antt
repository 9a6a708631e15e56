-- `marking::mark::mark_row` meets its contract.
use Rattle.std.proofs.Common.{ℕ, ◌+◌, ◌-◌, ◌≡◌, Bool, true, List, arith, length, length-drop, length-take-le, take, drop, replicate, ap, ap₂, ◌∙◌}
use borrow.Rule.Slice.PartMut.{put_mid}
use Rattle.marking.specs.Paint.{row-filled}
use Rattle.marking.proofs.mark.mark_row.Goals as goal

pub returns : goal.returns
returns c =
    let a = c.args in
    let width : a.start + a.n - a.start ≡ a.n = omega arith in
    let size = length-take-le a.n (drop a.start a.marks.now) (omega (arith, length-drop a.start a.marks.now, c.requires)) in
    ap₂ (λ (k : ℕ) (l : List Bool). put_mid a.start k a.marks.now l) width
    (c.fill.ensures.after (λ y e. e) ∙ ap (λ (k : ℕ). replicate k true) (ap (λ (k : ℕ). length (take k (drop a.start a.marks.now))) width ∙ size))
    ∙ row-filled a.n a.start a.marks.now c.requires
