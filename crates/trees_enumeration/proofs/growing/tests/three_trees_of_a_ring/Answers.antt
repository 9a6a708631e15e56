-- Three stations and a link between each two are a yard that trees can be drawn in.
use Prim.Native.Nat.{ℕ, ◌<◌}
use Rattle.std.specs.Prelude.{zero, suc, List, [], ◌∷◌}
use mathlib.Core.Path.{refl}
use native.Mathlib.Omega.{arith}
use Rattle.network.proofs.Resting.{all-counted}
use Rattle.network.specs.Yard.{ends_at}
use Rattle.spanning.specs.Tree.{EndsBelow}
use Rattle.stations.specs.Stations.{ends-stations}
use Rattle.trees_enumeration.proofs.growing.tests.three_trees_of_a_ring.Goals as goal

abbrev ring : List ℕ
ring = 0 ∷ 1 ∷ 1 ∷ 2 ∷ 0 ∷ 2 ∷ []

below : (e : ℕ) → e < 3 → EndsBelow 3 (ends_at ring e)
below zero h = (omega arith, omega arith)
below (suc zero) h = (omega arith, omega arith)
below (suc (suc zero)) h = (omega arith, omega arith)
below (suc (suc (suc e))) h = absurd (omega arith)

pub first-found-requires : goal.first-found-requires
first-found-requires g c =
    let three = all-counted 3 in
    record {
      drawable = record {
        some-station = omega (arith, three);
        tree = omega (arith, three);
        within = below;
        stations = ends-stations ring 3 3 (omega arith) refl below;
      };
      size = refl;
      few = omega arith;
      small = omega arith;
    }
