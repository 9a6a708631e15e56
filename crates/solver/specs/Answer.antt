-- What a ceilings question asks of the search: whether a tree fits, with its sum, and its links in the caller's buffer.
use Rattle.std.specs.Prelude.{Option, Some, None, ℕ, ◌≤◌, Bool, List, ◌++◌, ◌≡◌, ℤ, drop, length}
use Rattle.std.proofs.Math.Option.{Option as BestOption, none, some}
use Rattle.std.proofs.Math.Path.{refl, ap}
use Rattle.std.proofs.Common.{sym, ◌∙◌, arith}
use Rattle.network.specs.Yard.{best, sum_at, tree_size}
use Rattle.network.specs.Calls.{links_of, tree_with}
use Rattle.network.specs.NetworkFine.{NetworkFine}
use Rattle.network.specs.Network.{Network}
use Rattle.network.specs.Shaped.{net_of}
use Rattle.network.specs.declared.Shape.{Shape}
use Rattle.trees_costs.specs.Added.{sum_of}
use Rattle.search_trials.specs.Flags.{rising}
use Rattle.search_trials.specs.Search.{Best}
use Rattle.solver.specs.Buffer.{put_front, put_at}
use Rattle.solver.specs.Assembled.{Reports}
use Rattle.solver.specs.OfNetwork.{net_best}
use Rattle.solver.specs.Found.{Shows, none-shown, tree-shown}
use Rattle.solver.specs.Best.{best-shown}

-- the best tree under bounds, by a shape and its columns
abbrev pub best_under : Shape → List ℕ → List ℕ → List ℤ → List ℤ → BestOption (List ℕ)
best_under shape ends sums costs bs = best (net_of shape ends sums costs) bs

-- the raised sum of a tree, if there is one
abbrev pub sum_told : List ℕ → BestOption (List ℕ) → Option ℕ
sum_told sums none = None
sum_told sums (some ts) = Some (sum_of sums ts)

-- r tells of the best tree o, if any: its raised sum
pub record Tells (sums : List ℕ) (o : BestOption (List ℕ)) (r : Option ℕ) : Type 0 where
  pub is : r ≡ sum_told sums o

-- what reports what is shown tells of it, and its flags are the tree's
module _ {goal : ℕ} {b : Best} {r : Option ℕ} {taken : List Bool} (R : Reports b r taken) where
  shown-tells : (sums : List ℕ) (o : BestOption (List ℕ)) → Shows (sum_at sums) goal o b → Tells sums o r
  unfolding sum_of
  shown-tells sums none (none-shown f) = record { is = rw f at R.sum }
  shown-tells sums (some us) (tree-shown f q w g h) = record { is = (rw f at R.sum) ∙ ap (λ (s : ℕ). Some s) q }

  module _ {s : ℕ → ℕ} where
    shown-size : (o : BestOption (List ℕ)) {x : ℕ} → Shows s goal o b → r ≡ Some x → length (rising 0 taken) ≡ goal
    shown-size none (none-shown f) e = let z = rw f at R.sum in cc
    shown-size (some ts) (tree-shown f q w g h) e = ap (λ (l : List Bool). length (rising 0 l)) (R.links f) ∙ ap length w ∙ h

    shown-tree : (o : BestOption (List ℕ)) {x : ℕ} (tree : List ℕ) → Shows s goal o b → r ≡ Some x → goal ≤ length tree
        → put_at 0 (rising 0 taken) tree ≡ links_of o ++ drop (length (links_of o)) tree
    shown-tree none tree (none-shown f) e k = let z = rw f at R.sum in cc
    shown-tree (some ts) tree (tree-shown f q w g h) e k =
        ap (λ (l : List Bool). put_at 0 (rising 0 l) tree) (R.links f) ∙ ap (λ (l : List ℕ). put_at 0 l tree) w ∙ put_front ts tree (omega arith)

    shown-none : (o : BestOption (List ℕ)) (tree : List ℕ) → Shows s goal o b → r ≡ None → tree ≡ links_of o ++ drop (length (links_of o)) tree
    shown-none none tree (none-shown f) e = refl
    shown-none (some ts) tree (tree-shown f q w g h) e = let z = rw f at R.sum in cc

-- what the program's search reports is the answer
module _ (net : Network) (fine : NetworkFine net) (bs : List ℤ) (each : length bs ≡ net.p) {r : Option ℕ} {taken : List Bool}
    (R : Reports (net_best net bs) r taken) where
  pub answer-tells : Tells net.sums (best net bs) r
  answer-tells = shown-tells R net.sums (best net bs) (best-shown net fine bs each)

  -- where a tree was found, it has t links, which go to the buffer
  pub answer-size : (t : ℕ) {x : ℕ} → t ≡ tree_size net → r ≡ Some x → length (rising 0 taken) ≡ t
  answer-size t q f = shown-size R (best net bs) (best-shown net fine bs each) f ∙ sym q

  pub answer-tree : (tree left : List ℕ) {x : ℕ} → r ≡ Some x → tree_size net ≤ length tree → left ≡ put_at 0 (rising 0 taken) tree
      → left ≡ tree_with (best net bs) tree
  unfolding tree_with
  answer-tree tree left f h q = q ∙ shown-tree R (best net bs) tree (best-shown net fine bs each) f h

  pub answer-none : (tree : List ℕ) → r ≡ None → tree ≡ tree_with (best net bs) tree
  unfolding tree_with
  answer-none tree f = shown-none R (best net bs) tree (best-shown net fine bs each) f
