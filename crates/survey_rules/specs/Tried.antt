-- The ranks, of which each is tried beside the place of its ceiling.
use Rattle.std.specs.Prelude.{ℕ, ◌+◌, ◌||◌, List, [], ◌∷◌, ◌≡◌, refl}
use Rattle.std.specs.List.{enumerate_from, list_any}
use Rattle.std.proofs.Common.{ap}
use Rattle.network.specs.Refusals.{any_bad_rank, bad_rank}

-- one is against its rule
pub tried-any : (n p j : ℕ) (ks : List ℕ) → list_any (λ q. bad_rank n p q.0 q.1) (enumerate_from j ks) ≡ any_bad_rank n p j ks
tried-any n p j [] = refl
tried-any n p j (k ∷ ks) = ap (λ r. bad_rank n p j k || r) (tried-any n p (j + 1) ks)
