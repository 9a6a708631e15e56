-- What a forest loses to one and to two edges that are there before it: of a forest's edges, in their order, Kruskal's method passes over the first
-- that joins the ends of the new edge, and over no other. The edges of the forest are the base.
use Rattle.std.proofs.Math.Bool.{Bool, not}
use Rattle.std.specs.Prelude.{length, take}
use mathlib.Core.List.{List, map}
use Prim.Native.Nat.{ℕ, ◌+◌}
use Rattle.spanning.specs.Labelling.{Edge, Labelling, crosses}
use Rattle.spanning.specs.Labelling.{merge}
use Rattle.spanning.specs.Tree.{merge_all}
use Rattle.spanning.specs.Places.{first_place}

module _ (ends : ℕ → Edge) where
  -- what is joined after the edge at place k of the base
  unfoldable pub row_at : Labelling → List ℕ → ℕ → Labelling
  row_at L base k = merge_all L (map ends (take (k + 1) base))

  -- the first place after which what is joined passes a test, or the place behind the last
  unfoldable pub first_row : (Labelling → Bool) → Labelling → List ℕ → ℕ
  first_row test L base = first_place (λ k. test (row_at L base k)) 0 (length base)

  -- the place of the base's edge that joins the ends of e
  unfoldable pub lost_one : Labelling → List ℕ → Edge → ℕ
  lost_one L base e = first_row (λ M. not (crosses M e)) L base

  -- the place of the base's edge that joins the ends of f, where e joins its ends beside the base
  unfoldable pub lost_two : Labelling → List ℕ → Edge → Edge → ℕ
  lost_two L base e f = first_row (λ M. not (crosses (merge M e) f)) L base
