-- The ceilings question on a network: its answer by the best tree, and the lent tree buffer after it.
use Rattle.std.specs.Prelude as found
use Rattle.std.specs.Prelude.{Some, None, Ok, Err, true, List, ◌≡◌, ℕ, ℤ, drop, length, take}
use Rattle.std.proofs.Math.Option.{Option, none, some}
use Rattle.std.proofs.Math.Path.{refl}
use Rattle.std.proofs.Common.{sym, ap, ◌∙◌, arith}
use Rattle.std.proofs.Math.Seq.{take-append_seam}
use Rattle.spanning.proofs.Listing.{is_listed-iff, listing-length}
use Rattle.frontier.proofs.Best.{best-some}
use Rattle.network.specs.Yard.{best, ends as ends_of, stations, tree_size, usable, yard}
use Rattle.network.specs.Calls.{tree_with}
use Rattle.network.specs.Checked.{Answer}
use Rattle.network.specs.PlanList.{costs_of}
use Rattle.network.specs.Shaped.{Plannable, net_of}
use Rattle.network.specs.declared.Costs.{Costs}
use Rattle.network.specs.Network.{Network}
use Rattle.network.specs.declared.refusals.Refusal.{Refusal}
use Rattle.network.specs.declared.refusals.Rule.TheVariants.{NothingFits}
use Rattle.network.specs.declared.Shape.{Shape}
use Rattle.trees_costs.specs.Added.{sum_of}
use Rattle.trees_costs.specs.TreeCosts.{Priceable, TreeLinks, costs-net, costs_by, priceable, tree-links}
use Rattle.solver.specs.Answer.{Tells, sum_told}

-- the answer, by the best tree under the bounds
unfoldable pub answer_of : Network → Option (List ℕ) → Answer
answer_of net none = Err (record { rule = NothingFits; place = 0 })
answer_of net (some ts) = Ok (costs_of net ts)

-- a refusal says that there is no tree
pub answer-none : (net : Network) (o : Option (List ℕ)) {a : Answer} {r : Refusal} → a ≡ answer_of net o → a ≡ Err r → o ≡ none
unfolding answer_of
answer-none net none e f = refl
answer-none net (some ts) e f = cc

-- a plan says which tree is the best, by its costs
pub record Found (net : Network) (o : Option (List ℕ)) (v : Costs) : Type 0 where
  pub tree : List ℕ
  pub best-is : o ≡ some tree
  pub costs-are : v ≡ costs_of net tree

pub answer-found : (net : Network) (o : Option (List ℕ)) {a : Answer} {v : Costs} → a ≡ answer_of net o → a ≡ Ok v → Found net o v
unfolding answer_of
answer-found net none e f = cc
answer-found net (some ts) {a} {v} e f =
    let costs : v ≡ costs_of net ts = cc in
    record { tree = ts; best-is = refl; costs-are = costs }

-- its links are the front of the buffer
pub tree-front : (o : Option (List ℕ)) (ts tree : List ℕ) → o ≡ some ts → take (length ts) (tree_with o tree) ≡ ts
unfolding tree_with
tree-front o ts tree e = ap (λ (q : Option (List ℕ)). take (length ts) (tree_with q tree)) e ∙ take-append_seam ts (drop (length ts) tree)

-- a best tree has t links
pub best-length : (net : Network) (b : List ℤ) (ts : List ℕ) → best net b ≡ some ts → length ts ≡ tree_size net
best-length net b ts e = listing-length (ends_of net) (stations net) net.m (usable net) ts (best-some (yard net) b ts e).member

-- what the search finds: the answer of none, and that of a tree with the costs of its links
module _ (sums : List ℕ) (o : Option (List ℕ)) {r : found.Option ℕ} (tells : Tells sums o r) where
  pub found_none : (net : Network) → r ≡ None → Err (record { rule = NothingFits; place = 0 }) ≡ answer_of net o
  unfolding answer_of
  found_none net f = go o (sym tells.is ∙ f)
    where
      go : (o : Option (List ℕ)) → sum_told sums o ≡ None → Err (record { rule = NothingFits; place = 0 }) ≡ answer_of net o
      go none f = refl
      go (some ts) f = cc

  pub found-tree : {x : ℕ} → r ≡ Some x → (ts : List ℕ) × (o ≡ some ts) × (x ≡ sum_of sums ts)
  found-tree {x} f = go o (sym tells.is ∙ f)
    where
      go : (o : Option (List ℕ)) → sum_told sums o ≡ Some x → (ts : List ℕ) × (o ≡ some ts) × (x ≡ sum_of sums ts)
      go none f = let z : ◌≡◌ {A = ℕ} 0 1 = cc in absurd (omega arith)
      go (some ts) f = let z : x ≡ sum_of sums ts = cc in (ts, refl, z)

-- where the best tree is ts, the first t bytes of the buffer are its links, whose costs are the answer's
module _ (shape : Shape) (ends sums : List ℕ) (costs bs : List ℤ) (can : Plannable shape ends sums costs) (ts : List ℕ)
    (is : best (net_of shape ends sums costs) bs ≡ some ts) (tree : List ℕ) {left : List ℕ}
    (e : left ≡ tree_with (best (net_of shape ends sums costs) bs) tree) where
  abbrev net : Network
  net = net_of shape ends sums costs

  front : take shape.t left ≡ ts
  front =
      ap (λ (k : ℕ). take k left) (can.tree ∙ sym (best-length net bs ts is))
      ∙ ap (take (length ts)) e ∙ tree-front (best net bs) ts tree is

  listed : TreeLinks net ts
  listed = tree-links net ts ((is_listed-iff (ends_of net) (stations net) net.m (usable net) ts).1 (best-some (yard net) bs ts is).member)

  pub front-priceable : {raised : ℕ} → raised ≡ sum_of sums ts → Priceable shape costs (take shape.t left) raised
  front-priceable q = rw (front, q) (priceable shape ends sums costs can ts listed)

  pub front-answer : {raised : ℕ} {v : Costs} → raised ≡ sum_of sums ts → v ≡ costs_by shape costs (take shape.t left) raised
      → Ok v ≡ answer_of net (best net bs)
  unfolding answer_of
  front-answer q f = rw (is, f, front, q, costs-net shape ends sums costs can ts)
