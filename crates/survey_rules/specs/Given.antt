-- The fields that a yard record has in some layouts alone.
use Rattle.std.specs.Prelude.{Some, None, MatchOption, Option, Bool, false, is_some, unwrap_or, cond, ◌&&◌, not, eqb, ℕ, List, ◌≡◌}
use Rattle.network.specs.Bytes.{byte_at, u24_at}
use Rattle.network.specs.Refusals.{bad_count}
use Rattle.network.specs.Survey.{rest_in}
use Rattle.network.specs.declared.Layout.{Layout}

-- the stations at rest, which are none where the layout has no bytes for them
pub given-rest : (l : Layout) (s : List ℕ) (r : ℕ) → MatchOption l.rest (r ≡ 0) (λ at. r ≡ u24_at s at) → r ≡ rest_in l s
unfolding rest_in
given-rest l s r = pick l.rest
  where
    pick : (o : Option ℕ) → MatchOption o (r ≡ 0) (λ at. r ≡ u24_at s at) → r ≡ cond (is_some o) (u24_at s (unwrap_or o 0)) 0
    pick None e = e
    pick (Some at) e = e

-- the link count, which is not wrong where the layout has none
pub given-count : (l : Layout) (s : List ℕ) (m : ℕ) (b : Bool) → MatchOption l.count (b ≡ false) (λ at. b ≡ not (eqb (byte_at s at) m)) → b ≡ bad_count s l m
unfolding bad_count
given-count l s m b = pick l.count
  where
    pick : (o : Option ℕ) → MatchOption o (b ≡ false) (λ at. b ≡ not (eqb (byte_at s at) m)) → b ≡ is_some o && not (eqb (byte_at s (unwrap_or o 0)) m)
    pick None e = e
    pick (Some at) e = e
