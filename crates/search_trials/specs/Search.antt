-- The search for the best tree as a program has it: exception sets, their completions by the base, and the better of two trees.
use Rattle.std.specs.Prelude.{ℕ, Bool, cond, true, false, ◌&&◌, ◌||◌, eqb, ltb, length, replicate}
use mathlib.Core.List.{List, foldl}
use Rattle.order.specs.Lists.{filter}
use Rattle.network.specs.Capacities.{links_held}
use Rattle.forest.specs.Groups.{apart}
use Rattle.kruskal.specs.Tree.{bare, linked}
use Rattle.kruskal.specs.Base.{kept}
use Rattle.kruskal.specs.Tree.{Tree}
use Rattle.search_trials.specs.Flags.{first}
use Rattle.search_trials.specs.Sets.{trials}
use Rattle.exceptions.specs.Patterns.{admitted, normal}
use Rattle.exceptions.specs.Keep.{kept_exceptions}

-- the best tree so far, if one was found: its raised sum and a flag for each link
pub record Best : Type 0 where
  pub found : Bool
  pub sum : ℕ
  pub taken : List Bool

-- no tree was found
unfoldable pub nothing : Best
nothing = record { found = false; sum = 0; taken = replicate links_held false }

-- the tree t is better than b: it has a smaller sum, or the same sum and comes first
unfoldable pub beats : Tree → Best → Bool
beats t b = cond b.found (ltb t.sum b.sum || (eqb t.sum b.sum && first t.taken b.taken)) true

-- t takes the place of b where it has `goal` links and is better
unfoldable pub offered : ℕ → Best → Tree → Best
offered goal b t = cond (eqb t.count goal && beats t b) (record { found = true; sum = t.sum; taken = t.taken }) b

module _ (ends sums : List ℕ) (goal : ℕ) where
  -- one exception set: where each of its links joins two groups, the base completes it, and the tree is offered
  unfoldable pub tried : List ℕ → Best → List ℕ → Best
  tried base b X =
      let t = foldl (linked ends sums) bare X in
      cond (eqb t.count (length X)) (offered goal b (foldl (linked ends sums) t base)) b

  -- it is tried where a test holds
  unfoldable pub tried_if : Bool → List ℕ → Best → List ℕ → Best
  tried_if ok base b X = let t = tried base b X in cond ok t b

module _ (ends sums : List ℕ) (goal : ℕ) (ks patterns : List ℕ) where
  -- and so where it is admitted
  abbrev pub considered : List ℕ → Best → List ℕ → Best
  considered base b X = tried_if ends sums goal (admitted ks patterns X) base b X

  -- The best tree, of links that come in the given order. The base is what Kruskal's method keeps of the normal links; exceptions too are tried only
  -- where it keeps them, with nothing joined but exceptions of their pattern.
  unfoldable pub best_of : List ℕ → Best
  best_of order = foldl (considered (kept ends apart (filter (normal patterns) order))) nothing (trials (kept_exceptions ends patterns ks order))
