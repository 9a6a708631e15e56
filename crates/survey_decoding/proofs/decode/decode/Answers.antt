-- Each column is what its function ensures.
use Rattle.survey_decoding.specs.Decoded.{decoded}
use Rattle.survey_decoding.proofs.decode.decode.Goals as goal

pub returns : goal.returns
returns c =
    let ranks = c.ranks_in.ensures in
    rw (c.count_working.ensures, c.rest_in-rest.ensures, c.yard.ensures.0, c.yard.ensures.1)
    (decoded _ _ _ c.requires.held ranks.0 ranks.1 c.decode_ends.ensures c.decode_sums.ensures c.decode_costs.ensures)
