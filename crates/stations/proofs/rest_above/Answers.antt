-- `stations::rest_above` meets its contract. A number of 32 bits has none from 32 on.
use Rattle.std.proofs.Common.{ℕ, ◌/◌, ◌^◌, ◌≡◌, ◌<◌, ◌≤◌, arith, sym}
use Rattle.std.specs.Prelude.{Option, Some, None}
use Rattle.std.specs.Option.{SomeIff, unwrap_or}
use Rattle.std.proofs.Math.Nat.{div-eq_of_lt, pow-le-pow_right}
use Rattle.stations.proofs.rest_above.Goals as goal

shifted : (o : Option ℕ) (n rest : ℕ) → rest < 2 ^ 32 → SomeIff o (n < 32) (rest / 2 ^ n) → unwrap_or o 0 ≡ rest / 2 ^ n
shifted (Some x) n rest h s = s.1
shifted None n rest h s =
    let far : 32 ≤ n = omega (arith, s) in
    let below : rest < 2 ^ n = omega (arith, pow-le-pow_right {n = 2} (omega arith) far) in
    sym (div-eq_of_lt below)

pub returns : goal.returns
returns c = rw c.unwrap_or.ensures (shifted _ _ _ (omega (arith, c.ranges.rest)) c.checked_shr.ensures)
