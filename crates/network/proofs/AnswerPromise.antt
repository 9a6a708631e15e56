-- What callers rely on in an answer on a survey (demand 2): a plan is the best tree that fits, and none is reported only if no tree fits; the judge has
-- a plan exactly for a tree. The contract of the ceilings question has `BestPromised`, that of the judge `JudgePromised`.
use Rattle.std.specs.Prelude.{false, true, ℕ, ℤ, length}
use mathlib.Core.List.{List, ◌++◌}
use Rattle.std.proofs.Math.Logic.{inl, inr}
use Rattle.std.proofs.Math.Option.{Option, none, some}
use Rattle.std.proofs.Math.Path.{◌≡◌, ap, refl, subst}
use Rattle.std.proofs.Common.{sym, ◌∙◌, arith, le-ltb}
use Rattle.std.proofs.Math.ListN.{drop, take}
use Rattle.std.proofs.Math.Seq.{take_at}
use Rattle.order.specs.Test.{by-test, clash}
use Rattle.network.specs.Yard.{Tree, best, bounds, fits, is_tree, tree_size}
use Rattle.network.specs.Survey.{network_of}
use Rattle.network.specs.PlanList.{costs_of}
use Rattle.network.specs.Checked.{refuse_if, ◌or_else◌}
use Rattle.network.specs.Calls.{Reply, asked, asked_checked, best_tree, cost_values, drawn_checked, if_fine}
use Rattle.network.specs.Calls.{is_none, judged, links_of, reply, tree_after, tree_with}
use Rattle.network.specs.Meaning.{Best}
use Rattle.network.proofs.Meaning.{best-found, best-missing, is_tree-iff, tree-size}
use Rattle.network.proofs.NetworkFine.{survey-sound}
use Rattle.network.specs.Network.{Network}
use Rattle.network.specs.Checked.{no_refusal}
use Rattle.network.specs.declared.refusals.Rule.TheVariants.{NoTree, NothingFits}
use Rattle.network.specs.AnswerPromise.{Answers, BestPromised, JudgePromised}

-- ---- the ceilings question

-- what a reply by the best tree, if there is one, means
module _ (net : Network) (bs : List ℤ) (tree : List ℕ) where
  -- the reply
  abbrev reply_by : Option (List ℕ) → Reply
  reply_by o = reply (refuse_if (is_none o) NothingFits 0) (cost_values (costs_of net (links_of o)))

  -- the buffer after it
  abbrev left_by : Option (List ℕ) → List ℕ
  left_by o = if_fine (refuse_if (is_none o) NothingFits 0) (tree_with o tree) tree

  answers_by : (o : Option (List ℕ)) → ((ts : List ℕ) → o ≡ some ts → Best net bs ts × (length ts ≡ tree_size net))
      → (o ≡ none → (ts : List ℕ) → Tree net ts → fits net bs ts ≡ false)
      → Answers net bs (reply_by o).number (reply_by o).values (take (tree_size net) (left_by o))
  unfolding reply refuse_if if_fine tree_with
  answers_by none found missing =
      record {
        either = inr refl;
        found = λ e. let z : ◌≡◌ {A = ℕ} 14 0 = e in absurd (omega arith);
        costs = λ e. let z : ◌≡◌ {A = ℕ} 14 0 = e in absurd (omega arith);
        none = λ e. missing refl;
      }
  answers_by (some ts) found missing =
      let b = found ts refl in
      let front : take (tree_size net) (ts ++ drop (length ts) tree) ≡ ts = take_at ts (drop (length ts) tree) (tree_size net) b.1 in
      record {
        either = inl refl;
        found = λ e. subst (Best net bs) (sym front) b.0;
        costs = λ e. ap (λ (us : List ℕ). cost_values (costs_of net us)) (sym front);
        none = λ e. let z : ◌≡◌ {A = ℕ} 0 14 = e in absurd (omega arith);
      }

-- a reply and bytes that are those of the question's definitions keep the promise
pub best-promised : (s : List ℕ) (given : List ℤ) (tree : List ℕ) {a : Reply} {left : List ℕ} → a ≡ asked s given (length tree)
    → left ≡ tree_after s given tree → BestPromised s given tree a.number a.values left
unfolding asked asked_checked best_tree tree_after refuse_if ◌or_else◌
best-promised s given tree {a} {left} e f =
    record {
      answers = λ fine room.
          let net = network_of s in
          let bs = bounds net given in
          let sound = survey-sound s fine in
          let enough = le-ltb (length tree) (tree_size net) room in
          let replied : a ≡ reply_by net bs tree (best net bs) = e ∙ rw (fine, enough) in
          let leaves : left ≡ left_by net bs tree (best net bs) = f ∙ rw (fine, enough) in
          let found : (ts : List ℕ) → best net bs ≡ some ts → Best net bs ts × (length ts ≡ tree_size net) =
          λ ts q. let b = best-found net sound bs ts q in (b, tree-size net sound ts b.tree) in
          rw (replied, leaves) (answers_by net bs tree (best net bs) found (best-missing net sound bs));
    }

-- ---- the judge

-- a reply that is that of the judge's definition keeps the promise
pub judge-promised : (s drawn : List ℕ) {a : Reply} → a ≡ judged s drawn → JudgePromised s drawn a.number a.values
unfolding judged drawn_checked reply refuse_if ◌or_else◌
judge-promised s drawn {a} e =
    record {
      judges = λ fine.
          let net = network_of s in
          let iff = is_tree-iff net (survey-sound s fine) drawn in
          by-test (is_tree net drawn)
          (λ t.
          let replied : a ≡ reply no_refusal (cost_values (costs_of net drawn)) = e ∙ rw (fine, t) in
          rw replied (record { exactly = (λ z. iff.0 t, λ z. refl); costs = λ z. refl; otherwise = λ no. absurd (no (iff.0 t)) }))
          (λ t.
          let replied : a ≡ reply (refuse_if true NoTree 0) (cost_values (costs_of net drawn)) = e ∙ rw (fine, t) in
          let no : ¬ Tree net drawn = λ tree. clash (iff.1 tree) t in
          rw replied (record {
            exactly = (λ z. let y : ◌≡◌ {A = ℕ} 11 0 = z in absurd (omega arith), λ tree. absurd (no tree));
            costs = λ z. let y : ◌≡◌ {A = ℕ} 11 0 = z in absurd (omega arith);
            otherwise = λ k. refl;
          }));
    }
