-- The trees of a yard from one that was found on: where a search through them stands, and a tree that is handed on.
use Rattle.std.specs.Prelude.{ℕ, ◌≡◌, List, [], ◌∷◌, Option, Some, None, true, false, take}
use Rattle.trees_enumeration.specs.Growing.{ahead_from, from-none, from-some, later}
use Rattle.trees_enumeration.specs.declared.growing.Tree.{Tree}
use Rattle.trees_enumeration.specs.declared.growing.Trees.{Trees}

-- the links of the tree where a search stands
abbrev pub links_in : Trees → List ℕ
links_in trees = take trees.shape.t trees.taken.links

-- the trees after it
abbrev pub later_in : Trees → List (List ℕ)
later_in trees = later trees.shape trees.ends.now trees.taken.links

-- the trees from it on, where one was found
abbrev pub ahead_in : Trees → List (List ℕ)
ahead_in trees = ahead_from trees.shape trees.ends.now trees.found trees.taken.links

pub ahead_in-some : (trees : Trees) → trees.found ≡ true → ahead_in trees ≡ links_in trees ∷ later_in trees
ahead_in-some trees = from-some trees.shape trees.ends.now trees.taken.links

pub ahead_in-none : (trees : Trees) → trees.found ≡ false → ahead_in trees ≡ []
ahead_in-none trees = from-none trees.shape trees.ends.now trees.taken.links

-- the links of a tree
abbrev pub links_of : Tree → List ℕ
links_of tree = take tree.shape.t tree.taken.links

-- the trees after it
abbrev pub later_than : Tree → List (List ℕ)
later_than tree = later tree.shape tree.ends.now tree.taken.links

-- the trees from the one that was found on, if one was
unfoldable pub ahead : Option Tree → List (List ℕ)
ahead None = []
ahead (Some tree) = links_of tree ∷ later_than tree

pub ahead-none : {found : Option Tree} → found ≡ None → [] ≡ ahead found
unfolding ahead
ahead-none e = rw e

pub ahead-some : {found : Option Tree} (tree : Tree) → found ≡ Some tree → ahead found ≡ links_of tree ∷ later_than tree
unfolding ahead
ahead-some tree e = rw e
