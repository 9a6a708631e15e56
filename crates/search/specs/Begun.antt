-- A search under way: what its functions need, and a turn of one trial.
use Rattle.std.specs.Prelude.{ℕ, ◌<◌, Bool, true, false, not, ◌&&◌, List, [], ◌∷◌, ◌≡◌, get_or, length, Option, IfSome}
use Rattle.std.proofs.Common.{sym, ◌∙◌}
use borrow.Author.Tests.{not-true}
use Rattle.order.proofs.Test.{right}
use Rattle.order.specs.Lists.{◌∈◌}
use Rattle.order.proofs.Lists.{get_or-mem}
use Rattle.kruskal.specs.Tree.{Tree}
use Rattle.kmax.specs.Digits.{admits}
use Rattle.exceptions.specs.Select.{InOrder}
use Rattle.search_trials.specs.Search.{Best, offered}
use Rattle.search_trials.specs.Stands.{Stands, best_by}
use Rattle.search_trials.specs.Marks.{Flagged}
use Rattle.search_trials.specs.Chosen.{competed, competed-best, competed-flagged}
use Rattle.search_trials.specs.declared.best.Trial.{Trial}
use Rattle.search_trials.specs.Grows.{ring}
use Rattle.search_trials.specs.Trials.{Joining}

-- links in rising order of cost, each of which joins two stations
pub record Tryable (ends sums odd : List ℕ) : Type 0 where
  pub order : InOrder sums odd
  pub joining : (e : ℕ) → e ∈ odd → Joining ends sums e

-- two exceptions x and y, with the patterns p and q, may be in one tree: the ranks admit both, and they are no ring
unfoldable pub fitting : List ℕ → List ℕ → ℕ → ℕ → ℕ → ℕ → Bool
fitting ends ks x p y q = admits ks (p ∷ q ∷ []) && not (ring ends x y)

module _ (ends ks : List ℕ) (x p y q : ℕ) where
  pub fitting-admitted : admits ks (p ∷ q ∷ []) ≡ true → not (ring ends x y) ≡ fitting ends ks x p y q
  unfolding fitting
  fitting-admitted e = rw e

  pub fitting-barred : admits ks (p ∷ q ∷ []) ≡ false → false ≡ fitting ends ks x p y q
  unfolding fitting
  fitting-barred e = rw e

  pub fitting-ringless : fitting ends ks x p y q ≡ true → ring ends x y ≡ false
  unfolding fitting
  fitting-ringless e = not-true (ring ends x y) (right (admits ks (p ∷ q ∷ [])) _ e)

-- a turn of a trial: the best tree is what offering its tree leads to
pub turned : (base : List ℕ) (goal : ℕ) (c : Option Trial) {r : Option Trial} {u : Tree} {t : Trial} {w : Best} → r ≡ competed base goal c t
    → Stands base u t → IfSome c Flagged → Flagged t → w ≡ offered goal (best_by base c) u → (best_by base r ≡ w) × IfSome r Flagged
turned base goal c {t = t} e s f g q = rw e (competed-best base goal s c ∙ sym q, competed-flagged base goal c t f g)

-- the link at a place
pub joining-at : {ends sums odd : List ℕ} → Tryable ends sums odd → (k : ℕ) → k < length odd → Joining ends sums (get_or odd k 0)
joining-at {odd = odd} T k h = T.joining (get_or odd k 0) (get_or-mem odd k 0 h)
