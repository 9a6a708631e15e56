-- All spanning trees, found by going through the edges in the order of their numbers: an edge that may be used and joins two components is first taken,
-- and later left; any other is left. So they come in dictionary order, each once, and no set of edges with a ring is looked into.
use Rattle.std.specs.Prelude.{Bool, ◌&&◌}
use Rattle.std.proofs.Math.Bool.{cond}
use mathlib.Core.List.{List, [], ◌∷◌, map, ◌++◌}
use Prim.Native.Nat.{ℕ, zero, suc, ◌+◌, ◌-◌}
use Rattle.spanning.specs.Labelling.{Edge, Labelling, crosses, merge}

module _ (ends : ℕ → Edge) (usable : ℕ → Bool) where
  -- edge c may be used, and joins two components of L
  unfoldable pub takes : Labelling → ℕ → Bool
  takes L c = usable c && crosses L (ends c)

  -- the lists of t of the r edges from k on, each of which is taken after L and those before it, in dictionary order
  unfoldable pub branches : Labelling → ℕ → ℕ → ℕ → List (List ℕ)
  branches L r zero k = [] ∷ []
  branches L zero (suc t) k = []
  branches L (suc r) (suc t) k =
      let without = branches L r (suc t) (suc k) in
      let with = map (λ l. k ∷ l) (branches (merge L (ends k)) r t (suc k)) ++ without in
      cond (takes L k) with without

  -- the trees of t edges still to come once the edges ts are taken and edge k is looked at next: those with all of ts, and then those with fewer of them
  unfoldable pub to_come : Labelling → ℕ → ℕ → List ℕ → ℕ → List (List ℕ)
  to_come L m t [] k = branches L (m - k) t k
  to_come L m zero (c ∷ ts) k = []
  to_come L m (suc t) (c ∷ ts) k =
      let inside = map (λ l. c ∷ l) (to_come (merge L (ends c)) m t ts k) in
      inside ++ branches L (m - suc c) (suc t) (suc c)

-- ---- it ends

-- the steps that r edges may take: each is left, or taken with the others behind it
unfoldable pub steps : ℕ → ℕ
steps zero = 1
steps (suc r) = suc (suc (steps r + steps r))

-- the steps still to come once the edges ts are taken and edge k, of m, is looked at next
unfoldable pub steps_to_come : ℕ → List ℕ → ℕ → ℕ
steps_to_come m [] k = steps (m - k)
steps_to_come m (c ∷ ts) k = suc (steps (m - suc c) + steps_to_come m ts k)
