-- Records that are not refused have the room that `decode` requires; what counting their positions found decides the last number.
use Rattle.std.proofs.Common.{◌≡◌, ◌∙◌, sym, arith, rules, Err}
use Rattle.network.specs.Accepted.{RecordsFine}
use Rattle.network.specs.Survey.{link_count, network_with}
use Rattle.survey_decoding.specs.Decoded.{Decoded}
use Rattle.survey_reading.specs.Survey.{costs-fit, costs-size, countable, ends-fit, ends-size, few-costs, read-decodable, read-decoded, read-fine, read, read-over, read-refused}
use Rattle.survey_reading.proofs.reader.read_with.Goals as goal
use Rattle.survey_reading.proofs.reader.read_with.Goals.{In_ok-records, After-decode-shape}

-- the records are fine
fine : (c : In_ok-records) → RecordsFine c.args.s.now c.args.l
fine c = read-fine c.requires.0 c.in_ok-records.ensures

-- they were decoded
decoded : (c : After-decode-shape) → Decoded (network_with c.args.l c.args.s.now (link_count c.args.l c.args.s.now)) c.decode-shape.result
    c.decode-shape.new.ends c.decode-shape.new.sums c.decode-shape.new.costs
decoded c = read-decoded c.in_ok-records.ensures c.decode-shape.ensures

pub returns-in_err-records : goal.returns-in_err-records
returns-in_err-records c =
    let same : c.from_residual.result ≡ Err c.in_err-records.field-0.0 = search rules in
    rw same (read-refused _ _ _ c.in_err-records.ensures)

pub decode-shape-requires : goal.decode-shape-requires
decode-shape-requires c = read-decodable (fine ((goal.at.decode-shape-requires c).In_ok-records)) c.in_ok-records.ensures c.requires.1

pub overflow_mul-ends : goal.overflow_mul-ends
overflow_mul-ends c = omega (arith, (countable (fine ((goal.at.overflow_mul-ends c).In_ok-records)) (decoded ((goal.at.overflow_mul-ends c).After-decode-shape))).links)

pub slice_bounds-ends-end : goal.slice_bounds-ends-end
slice_bounds-ends-end c = ends-fit (fine ((goal.at.slice_bounds-ends-end c).In_ok-records)) (decoded ((goal.at.slice_bounds-ends-end c).After-decode-shape))

pub slice_bounds-ends-end-2 : goal.slice_bounds-ends-end-2
slice_bounds-ends-end-2 c = sym (ends-size (fine ((goal.at.slice_bounds-ends-end-2 c).In_ok-records)) (decoded ((goal.at.slice_bounds-ends-end-2 c).After-decode-shape)))

pub overflow_mul-costs : goal.overflow_mul-costs
overflow_mul-costs c = omega (arith, few-costs (fine ((goal.at.overflow_mul-costs c).In_ok-records)) (decoded ((goal.at.overflow_mul-costs c).After-decode-shape)))

pub slice_bounds-costs-end : goal.slice_bounds-costs-end
slice_bounds-costs-end c = costs-fit (fine ((goal.at.slice_bounds-costs-end c).In_ok-records)) (decoded ((goal.at.slice_bounds-costs-end c).After-decode-shape))

pub slice_bounds-costs-end-2 : goal.slice_bounds-costs-end-2
slice_bounds-costs-end-2 c = sym (costs-size (fine ((goal.at.slice_bounds-costs-end-2 c).In_ok-records)) (decoded ((goal.at.slice_bounds-costs-end-2 c).After-decode-shape)))

pub too_many_positions-too_many-requires : goal.too_many_positions-too_many-requires
too_many_positions-too_many-requires c = countable (fine ((goal.at.too_many_positions-too_many-requires c).In_ok-records)) (decoded ((goal.at.too_many_positions-too_many-requires c).After-decode-shape))

pub returns-in_err-refuse_if : goal.returns-in_err-refuse_if
returns-in_err-refuse_if c =
    let same : c.from_residual-in_err-refuse_if.result ≡ Err c.in_err-refuse_if.field-0.0 = search rules in
    rw same
    (read-over (fine ((goal.at.returns-in_err-refuse_if c).In_ok-records)) (decoded ((goal.at.returns-in_err-refuse_if c).After-decode-shape)) c.in_ok-records.ensures.checked _
    c.too_many_positions-too_many.ensures _ (sym c.refuse_if.ensures ∙ c.in_err-refuse_if.was))

pub returns : goal.returns
returns c =
    read (fine ((goal.at.returns c).In_ok-records)) (decoded ((goal.at.returns c).After-decode-shape)) c.in_ok-records.ensures.checked _
    c.too_many_positions-too_many.ensures (sym c.refuse_if.ensures ∙ c.in_ok-refuse_if.was)
