-- Ends that are stations.
use Rattle.std.specs.Prelude.{ℕ, suc, ◌+◌, ◌*◌, ◌≤◌, ◌<◌, List, ◌≡◌, ℤ, get_or, length}
use Rattle.std.proofs.Math.Decide.{dec_le}
use Rattle.std.proofs.Common.{lt_of_not-le, arith}
use Rattle.std.proofs.Math.ListN.{get_or-eq_default}
use Rattle.spanning.specs.Tree.{EndsBelow}
use Rattle.network.specs.Capacities.{stations_held}
use Rattle.network.specs.Shaped.{Plannable}
use Rattle.network.specs.Yard.{ends_at}
use Rattle.network.specs.declared.Shape.{Shape}

-- the ends are stations; so is 0, which stands for those past the last
pub record Stations (ends : List ℕ) : Type 0 where
  pub within : (c : ℕ) → EndsBelow stations_held (ends_at ends c)

-- those of m links between no more stations than are held
pub ends-stations : (ends : List ℕ) (n m : ℕ) → n ≤ stations_held → length ends ≡ 2 * m → ((c : ℕ) → c < m → EndsBelow n (ends_at ends c)) → Stations ends
ends-stations ends n m few size below = record { within = λ c. go c (dec_le (suc c) m) }
  where
    go : (c : ℕ) → Dec (c < m) → EndsBelow stations_held (ends_at ends c)
    go c (yes h) =
        let both = below c h in
        (omega arith, omega arith)
    go c (no h) =
        let far : m < suc c = lt_of_not-le h in
        let first : get_or ends (2 * c) 0 ≡ 0 = get_or-eq_default ends 0 (omega arith) in
        let second : get_or ends (2 * c + 1) 0 ≡ 0 = get_or-eq_default ends 0 (omega arith) in
        (omega arith, omega arith)

-- those of a network that can be planned
pub plannable-stations : {shape : Shape} {ends sums : List ℕ} {costs : List ℤ} → Plannable shape ends sums costs → Stations ends
plannable-stations {shape} {ends} can =
    ends-stations ends shape.n shape.m can.fine.few-stations can.fine.end-count (λ c h. (can.fine.first-end c h, can.fine.second-end c h))
