-- A yard: its stations, ceilings and links, with no limit and no byte in it. Document 01, "The yard and its plans".
use Rattle.std.specs.Prelude.{List, ℕ, ℤ}

pub record Network : Type 0 where
  -- the number of stations
  pub n : ℕ
  -- the number of ceilings
  pub p : ℕ
  -- the rank of each ceiling
  pub k : List ℕ
  -- the stations at rest: bit j is 1 where station j rests
  pub rest : ℕ
  -- the number of links
  pub m : ℕ
  -- the ends of the links, two for each
  pub ends : List ℕ
  -- their sum costs, raised by 1,000,000
  pub sums : List ℕ
  -- their ceiling costs: those of all links by the first ceiling, then those by the next
  pub costs : List ℤ
