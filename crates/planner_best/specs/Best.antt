-- The reply to a ceilings question and the tree buffer after it, by what the survey's check, the buffer and the search say.
use Rattle.std.specs.Prelude.{List, ◌≡◌, refl, ℕ, ◌≤◌, ◌<◌, ℤ, length}
use Rattle.std.proofs.Math.Option.{Option, none, some}
use Rattle.std.proofs.Common.{ap}
use borrow.Author.Tests.{le-ltb, lt-ltb}
use Rattle.network.specs.Yard.{best, bounds, tree_size}
use Rattle.network.specs.PlanList.{costs_of}
use Rattle.network.specs.Checked.{Answer, no_refusal, refuse_if, ◌or_else◌}
use Rattle.network.specs.Refusals.{checked_of}
use Rattle.network.specs.Survey.{network_of}
use Rattle.network.specs.Calls.{asked, asked_checked, best_tree, cost_values, if_fine, is_none, links_of, reply, says, tree_after, tree_with}
use Rattle.std.specs.Prelude.{Err}
use Rattle.network.specs.declared.refusals.Rule.TheVariants.{NothingFits, ShortBuffer}
use Rattle.network.specs.declared.Costs.{Costs}
use Rattle.network.specs.Network.{Network}
use Rattle.network.specs.declared.refusals.Refusal.{Refusal}
use Rattle.solver.specs.Question.{answer_of}

-- what an answer says, and what it leaves, where the last test is whether a tree fits
answer-says : (net : Network) (o : Option (List ℕ)) → says (answer_of net o) ≡ reply (refuse_if (is_none o) NothingFits 0) (cost_values (costs_of net (links_of o)))
unfolding answer_of says reply refuse_if
answer-says net none = refl
answer-says net (some ts) = refl

answer-leaves : (o : Option (List ℕ)) (tree : List ℕ) → tree_with o tree ≡ if_fine (refuse_if (is_none o) NothingFits 0) (tree_with o tree) tree
unfolding tree_with if_fine refuse_if
answer-leaves none tree = refl
answer-leaves (some ts) tree = refl

module _ (s : List ℕ) (given : List ℤ) (tree : List ℕ) where
  -- the survey is refused
  pub asked-refused : (r : Refusal) → checked_of s ≡ Err r → says (Err r) ≡ asked s given (length tree)
  unfolding asked asked_checked reply says ◌or_else◌
  asked-refused r e = rw e

  pub refused-after : (r : Refusal) → checked_of s ≡ Err r → tree ≡ tree_after s given tree
  unfolding tree_after asked_checked if_fine ◌or_else◌
  refused-after r e = rw e

  module _ (accepted : checked_of s ≡ no_refusal) (net : Network) (network : net ≡ network_of s) where
    -- the buffer is below t
    pub asked-short : length tree < tree_size net → says (Err (record { rule = ShortBuffer; place = 0 })) ≡ asked s given (length tree)
    unfolding asked asked_checked reply says refuse_if ◌or_else◌
    asked-short h = rw (accepted, ← network, lt-ltb (length tree) (tree_size net) h)

    pub short-after : length tree < tree_size net → tree ≡ tree_after s given tree
    unfolding tree_after asked_checked if_fine refuse_if ◌or_else◌
    short-after h = rw (accepted, ← network, lt-ltb (length tree) (tree_size net) h)

    -- the search is asked
    pub asked-answer : (a : Answer) → tree_size net ≤ length tree → a ≡ answer_of net (best net (bounds net given)) → says a ≡ asked s given (length tree)
    unfolding asked asked_checked best_tree refuse_if ◌or_else◌
    asked-answer a h e = rw (e, accepted, ← network, le-ltb (length tree) (tree_size net) h) (answer-says net (best net (bounds net given)))

    pub answer-after : (left : List ℕ) → tree_size net ≤ length tree → left ≡ tree_with (best net (bounds net given)) tree → left ≡ tree_after s given tree
    unfolding tree_after asked_checked best_tree refuse_if ◌or_else◌
    answer-after left h e = rw (e, accepted, ← network, le-ltb (length tree) (tree_size net) h) (answer-leaves (best net (bounds net given)) tree)
