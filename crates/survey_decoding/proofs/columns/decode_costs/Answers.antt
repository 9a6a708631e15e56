use Rattle.std.proofs.Common.{◌≡◌, ◌+◌, ◌-◌, ◌*◌, ◌≤◌, sym, arith, length, length-take, length-drop, drop, zero-mul, suc-mul, add-one}
use native.Mathlib.Nat.{mul-le-mul_right}
use Rattle.survey_decoding.specs.Columns.{costs-none, costs-turn}
use Rattle.survey_decoding.proofs.columns.decode_costs.Goals as goal
use Rattle.survey_decoding.proofs.columns.decode_costs.Goals.{In-loop-i}

-- the part of the ceiling in turn lies inside the column
inside : (c : In-loop-i) → c.loop-i.from + c.args.records.m ≤ length c.loop-i.costs
inside c =
    let v = c.loop-i in
    omega (arith, c.requires.1, v.invariant.behind, mul-le-mul_right c.args.records.m c.loop-i-test.true, suc-mul v.i c.args.records.m)

pub loop-i-init : goal.loop-i-init
loop-i-init c = record { behind = sym (zero-mul _); decoded = costs-none _ _ _ }

pub overflow_add-to : goal.overflow_add-to
overflow_add-to c = omega (arith, inside ((goal.at.overflow_add-to c).In-loop-i), c.well_formed)

pub offset_bounds-costs-from : goal.offset_bounds-costs-from
offset_bounds-costs-from c = omega (arith, inside ((goal.at.offset_bounds-costs-from c).In-loop-i), c.well_formed)

pub slice_bounds-decode_ceiling-end : goal.slice_bounds-decode_ceiling-end
slice_bounds-decode_ceiling-end c = inside ((goal.at.slice_bounds-decode_ceiling-end c).In-loop-i)

pub decode_ceiling-requires : goal.decode_ceiling-requires
decode_ceiling-requires c =
    let v = c.loop-i in
    let m = c.args.records.m in
    let room = inside ((goal.at.decode_ceiling-requires c).In-loop-i) in
    let rest = drop v.from v.costs in
    (omega (arith, c.requires.0), omega (arith, length-take (v.from + m - v.from) rest, length-drop v.from v.costs))

pub loop-i-preserved : goal.loop-i-preserved
loop-i-preserved c =
    let v = c.loop-i in
    let m = c.args.records.m in
    let room = inside ((goal.at.loop-i-preserved c).In-loop-i) in
    record {
      behind = omega (arith, v.invariant.behind, add-one v.i, suc-mul v.i m);
      decoded = costs-turn _ _ _ v.i v.from v.costs v.invariant.decoded room c.decode_ceiling.ensures;
    }

pub returns : goal.returns
returns c =
    let args = c.args in
    let v = c.loop-i in
    let all : v.i ≡ args.p = omega arith in
    let end : v.from ≡ args.p * args.records.m = rw all at v.invariant.behind in
    rw (all, end) at v.invariant.decoded
