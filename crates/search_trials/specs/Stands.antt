-- Trees as the code holds them, by what they take of the base: the tree that a trial stands for, and the best tree so far.
use Rattle.std.specs.Prelude.{true, not, ◌&&◌, ◌≡◌, ℕ, eqb, length, Option, Some, None, unwrap_or}
use mathlib.Core.List.{List, [], ◌∷◌, ◌++◌, foldl}
use Rattle.spanning.specs.Places.{at_places}
use Rattle.kruskal.specs.Tree.{Tree, bare, linked}
use Rattle.kruskal.specs.Grown.{flags_of}
use Rattle.search_trials.specs.Search.{Best, nothing}
use Rattle.search_trials.specs.declared.best.ExceptionSet.{ExceptionSet}
use Rattle.search_trials.specs.declared.best.ExceptionSet.TheVariants.{Empty, One, Two}
use Rattle.search_trials.specs.declared.best.Trial.{Trial}

-- the exceptions of a set
abbrev pub links_in : ExceptionSet → List ℕ
links_in Empty = []
links_in (One link) = link ∷ []
links_in (Two link other) = link ∷ other ∷ []

-- the exceptions of a trial
unfoldable pub exceptions_of : Trial → List ℕ
exceptions_of t = links_in t.set

-- a place of the base, behind its last one where there is none
abbrev pub place_of : List ℕ → Option ℕ → ℕ
place_of base place = unwrap_or place (length base)

-- the links of a trial: the exceptions, and the base without what it loses
unfoldable pub links_by : List ℕ → Trial → List ℕ
links_by base t = exceptions_of t ++ at_places (λ k. not (eqb k (place_of base t.lost)) && not (eqb k (place_of base t.lost2))) 0 base

-- the tree that the set X leads to
unfoldable pub grown_from : List ℕ → List ℕ → List ℕ → List ℕ → Tree
grown_from ends sums base X = foldl (linked ends sums) (foldl (linked ends sums) bare X) base

-- a trial stands for the tree u: it has its number of links, its sum and its flags
pub record Stands (base : List ℕ) (u : Tree) (t : Trial) : Type 0 where
  pub count : t.count ≡ u.count
  pub sum : t.sum ≡ u.sum
  pub flags : flags_of (links_by base t) ≡ u.taken

-- the best tree that the lead stands for, if there is one
abbrev pub best_by : List ℕ → Option Trial → Best
best_by base None = nothing
best_by base (Some t) = record { found = true; sum = t.sum; taken = flags_of (links_by base t) }

-- its sum, or 0
abbrev pub sum_by : Option Trial → ℕ
sum_by None = 0
sum_by (Some t) = t.sum
