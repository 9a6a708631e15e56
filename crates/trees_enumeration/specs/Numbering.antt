-- Tree r of a network handed out where the tree buffer is long enough, and the loop that goes on to it.
use Rattle.std.specs.Prelude.{true, Ok, Err, List, [], ◌∷◌, ◌≡◌, ℕ, ◌+◌, ◌-◌, ◌≤◌, ◌<◌, leb, drop, get_or, length}
use Rattle.std.proofs.Math.Option.{some}
use Rattle.std.proofs.Common.{sym, ap, ◌∙◌, add-zero, zero-add, arith, length-drop, drop-drop, get_or-drop}
use borrow.Author.Tests.{le-leb, lt-leb}
use Rattle.order.proofs.Lists.{get_or-mem}
use Rattle.spanning.proofs.Listing.{is_listed-iff}
use Rattle.network.specs.Network.{Network}
use Rattle.network.specs.Yard.{ends, is_tree, stations, trees, usable}
use Rattle.network.specs.PlanList.{costs_of}
use Rattle.network.specs.Checked.{Answer, Checked, refuse_if}
use Rattle.network.specs.Calls.{if_fine, tree_with}
use Rattle.network.specs.EveryTree.{tree_at, tree_count}
use Rattle.network.specs.declared.Costs.{Costs}
use Rattle.network.specs.declared.refusals.Rule.TheVariants.{NoSuchPlan}
use Rattle.buffers.specs.Overwrite.{overwrite}

-- 13: r is not below the number of trees
abbrev pub number_checked : Network → ℕ → Checked
number_checked net r = refuse_if (leb (tree_count net) r) NoSuchPlan 0

-- a tree's costs, or a refusal
unfoldable pub answer_by : Checked → Network → List ℕ → Answer
answer_by (Ok u) net ts = Ok (costs_of net ts)
answer_by (Err x) net ts = Err x

-- tree r's costs, or 13
unfoldable pub numbered_by : Network → ℕ → Answer
numbered_by net r = answer_by (number_checked net r) net (tree_at net r)

-- the tree buffer after it
unfoldable pub numbered_after : Network → ℕ → List ℕ → List ℕ
numbered_after net r tree = if_fine (number_checked net r) (tree_with (some (tree_at net r)) tree) tree

-- ---- the trees from number r - left on are what is ahead

module _ (net : Network) (r : ℕ) where
  -- at none: r is past the last
  pub past-last : (left : ℕ) → drop (r - left) (trees net) ≡ [] → tree_count net ≤ r
  past-last left e = let none : length (trees net) - (r - left) ≡ 0 = sym (length-drop (r - left) (trees net)) ∙ ap length e in omega arith

  -- one is passed
  pub passed : (left : ℕ) {ts : List ℕ} {later : List (List ℕ)} → 0 < left → left ≤ r → drop (r - left) (trees net) ≡ ts ∷ later
      → drop (r - (left - 1)) (trees net) ≡ later
  passed left h g e =
      let next : r - (left - 1) ≡ (r - left) + 1 = omega arith in
      ap (λ (k : ℕ). drop k (trees net)) next ∙ sym (drop-drop 1 (r - left) (trees net)) ∙ ap (drop 1) e

  -- at tree r
  pub at_last : (left : ℕ) {ts : List ℕ} {later : List (List ℕ)} → left ≡ 0 → drop (r - left) (trees net) ≡ ts ∷ later
      → (r < tree_count net) × (tree_at net r ≡ ts)
  at_last left h e =
      let here : r - left ≡ r = omega arith in
      let at : drop r (trees net) ≡ _ = ap (λ (k : ℕ). drop k (trees net)) (sym here) ∙ e in
      let some = sym (length-drop r (trees net)) ∙ ap length at in
      (omega arith, ap (λ (k : ℕ). get_or (trees net) k []) (sym (add-zero r)) ∙ sym (get_or-drop r (trees net) 0 []) ∙ ap (λ (l : List (List ℕ)). get_or l 0 []) at)

  -- it is a tree
  pub passes : r < tree_count net → is_tree net (tree_at net r) ≡ true
  passes h = (is_listed-iff (ends net) (stations net) net.m (usable net) (tree_at net r)).1 (get_or-mem (trees net) r [] h)

  -- there is none
  pub not_there : (tree : List ℕ) → tree_count net ≤ r
      → (Err (record { rule = NoSuchPlan; place = 0 }) ≡ numbered_by net r) × (tree ≡ numbered_after net r tree)
  unfolding numbered_by numbered_after answer_by if_fine refuse_if
  not_there tree h = let e = le-leb (tree_count net) r h in (rw e, rw e)

  -- it is handed out
  pub handed : (tree left ts : List ℕ) (v : Costs) → r < tree_count net → ts ≡ tree_at net r → v ≡ costs_of net ts → left ≡ overwrite tree 0 ts
      → (Ok v ≡ numbered_by net r) × (left ≡ numbered_after net r tree)
  unfolding numbered_by numbered_after answer_by if_fine tree_with refuse_if overwrite
  handed tree left ts v h is e f = let t = lt-leb (tree_count net) r h in (rw (t, e, is), rw (t, f, is, zero-add))
