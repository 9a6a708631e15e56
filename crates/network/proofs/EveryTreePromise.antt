-- What callers rely on in the trees of a yard by their numbers: each tree has one number below the count, and no number there is without a tree; lower
-- numbers come first in dictionary order.
-- The contracts of the two calls have `CountPromised` and `TreePromised`.
use Rattle.std.specs.Prelude.{true, List, [], ◌∷◌, ◌++◌, ◌⊎◌, ◌≡◌, refl, ℕ, ◌≤◌, ◌<◌, leb, pos, drop, length, take}
use Rattle.std.proofs.Common.{inl, inr, sym, ap, ◌∙◌, subst, arith, take_at, le-ltb, leb-false, leb-true}
use Rattle.order.specs.Test.{by-test}
use Rattle.order.proofs.Lists.{get_or-mem, mem-get_or}
use Rattle.order.specs.Order.{Less, dictionary, orderℕ}
use Rattle.order.proofs.Order.{less-irrefl}
use Rattle.order.proofs.Perm.{pairwise-at}
use Rattle.spanning.proofs.Rising.{trichotomy}
use Rattle.planning.specs.Graph.{Sound}
use Rattle.network.specs.Limits.{max_enumerated}
use Rattle.network.specs.Network.{Network}
use Rattle.network.specs.Yard.{graph, tree_size, trees}
use Rattle.network.specs.Survey.{network_of}
use Rattle.network.specs.PlanList.{costs_of}
use Rattle.network.specs.Checked.{refuse_if, ◌or_else◌}
use Rattle.network.specs.Refusals.{checked_of}
use Rattle.network.specs.Calls.{Reply, cost_values, drawn_checked, if_fine, judged}
use Rattle.network.specs.Calls.{reply, tree_with}
use Rattle.network.specs.EveryTree.{count_reply, tree_at, tree_checked, tree_count, tree_left, tree_reply, trees_checked}
use Rattle.network.proofs.Meaning.{is_tree-iff, tree-size, trees-iff, trees-rising}
use Rattle.network.proofs.NetworkFine.{survey-sound}
use Rattle.network.specs.Checked.{no_refusal}
use Rattle.network.specs.declared.refusals.Rule.TheVariants.{NoSuchPlan}
use Rattle.network.specs.EveryTreePromise.{Numbered, CountPromised, TreePromised}

pub numbered : (net : Network) → Sound (graph net) → Numbered net
numbered net sound =
    record {
      only-trees = λ r h. (trees-iff net sound (tree_at net r)).0 (get_or-mem (trees net) r [] h);
      each = λ ts t. mem-get_or [] ((trees-iff net sound ts).1 t);
      once = λ q r g h e. same q r g h e (trichotomy q r);
      ordered = before;
    }
  where
    before : (q r : ℕ) → q < r → r < tree_count net → Less (dictionary orderℕ) (tree_at net q) (tree_at net r)
    before q r g h = pairwise-at (λ x y. Less (dictionary orderℕ) x y) (trees net) (trees-rising net sound) q r [] g h

    same : (q r : ℕ) → q < tree_count net → r < tree_count net → tree_at net q ≡ tree_at net r → (q < r) ⊎ ((q ≡ r) ⊎ (r < q)) → q ≡ r
    same q r g h e (inl l) = absurd (less-irrefl (dictionary orderℕ) (tree_at net r) (subst (λ (ts : List ℕ). Less (dictionary orderℕ) ts (tree_at net r)) e (before q r l h)))
    same q r g h e (inr (inl p)) = p
    same q r g h e (inr (inr l)) = absurd (less-irrefl (dictionary orderℕ) (tree_at net q) (subst (λ (ts : List ℕ). Less (dictionary orderℕ) ts (tree_at net q)) (sym e) (before r q l g)))

-- ---- the number of trees

-- a survey of at most 12 links that is accepted is not declined by 21
pub few-links : (s : List ℕ) → checked_of s ≡ no_refusal → (network_of s).m ≤ max_enumerated → trees_checked s ≡ no_refusal
unfolding trees_checked refuse_if ◌or_else◌
few-links s fine few = rw (fine, le-ltb max_enumerated (network_of s).m few)

pub count-promised : (s : List ℕ) {a : Reply} → a ≡ count_reply s → CountPromised s a.number a.values
unfolding count_reply reply
count-promised s {a} e =
    record {
      counts = λ fine few.
          let net = network_of s in
          let replied : a ≡ reply no_refusal (pos (tree_count net) ∷ []) = e ∙ rw (few-links s fine few) in
          rw replied (record { succeeds = refl; count = refl; numbered = numbered net (survey-sound s fine) });
    }

-- ---- tree r

pub tree-promised : (s : List ℕ) (r : ℕ) (tree : List ℕ) {a : Reply} {left : List ℕ} → a ≡ tree_reply s r (length tree) → left ≡ tree_left s r tree
    → TreePromised s r tree a.number a.values left
unfolding tree_reply tree_left tree_checked judged drawn_checked tree_with reply if_fine refuse_if ◌or_else◌
tree-promised s r tree {a} {left} e f =
    record {
      hands = λ fine few room.
          let net = network_of s in
          let ts = tree_at net r in
          let sound = survey-sound s fine in
          let all = numbered net sound in
          let limit = few-links s fine few in
          let enough = le-ltb (length tree) (tree_size net) room in
          by-test (leb (tree_count net) r)
          (λ past.
          let replied : a ≡ reply (refuse_if true NoSuchPlan 0) (cost_values (costs_of net ts)) = e ∙ rw (limit, enough, past) in
          let no : ¬ (◌≡◌ {A = ℕ} 13 0) = λ z. absurd (omega arith) in
          rw replied (record {
            either = inr refl;
            below = (λ z. absurd (no z), λ h. let g = leb-true (tree_count net) r past in absurd (omega arith));
            tree = λ z. absurd (no z);
            which = λ z. absurd (no z);
            costs = λ z. absurd (no z);
            judges = λ z. absurd (no z);
            numbered = all;
          }))
          (λ past.
          let h = leb-false (tree_count net) r past in
          let is = all.only-trees r h in
          let replied : a ≡ reply no_refusal (cost_values (costs_of net ts)) = e ∙ rw (limit, enough, past) in
          let leaves : left ≡ ts ++ drop (length ts) tree = f ∙ rw (limit, enough, past) in
          let front : take (tree_size net) left ≡ ts = ap (take (tree_size net)) leaves ∙ take_at ts (drop (length ts) tree) (tree_size net) (tree-size net sound ts is) in
          rw (replied, front) (record {
            either = inl refl;
            below = (λ z. h, λ z. refl);
            tree = λ z. is;
            which = λ z. refl;
            costs = λ z. refl;
            judges = λ z. rw (fine, (is_tree-iff net sound ts).1 is);
            numbered = all;
          }));
    }
