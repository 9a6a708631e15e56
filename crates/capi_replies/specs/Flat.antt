-- The reply of a lookup as C sees it: plain numbers in a struct, and what a caller relies on in them.
use Rattle.std.specs.Prelude.{List, ◌⊎◌, ◌≡◌, ℕ, ◌≤◌, ℤ, pos, get_or, length}
use Rattle.std.proofs.Math.Logic.{inl, inr, ⊎_elim}
use Rattle.std.proofs.Common.{sym, ◌∙◌}
use Rattle.std.proofs.Math.Path.{ap, subst}
use Rattle.std.specs.Int.Signed.{mag}
use Rattle.network.specs.Calls.{Reply}
use Rattle.network.specs.Indexing.{index_after, index_need, lookup_reply, says_found}
use Rattle.network.specs.IndexPromise.{IsCheapest, LookupPromised, NoneMeets}
use Rattle.network.specs.Promise.{Archived}
use Rattle.network.specs.Checked.{Found, number_of}
use Rattle.std.specs.Prelude.{Ok, Err}
use Rattle.network.specs.declared.refusals.Refusal.{Refusal}
use Rattle.planner_index.specs.Kept.{reply-plan, reply-thirteen}
use Rattle.capi_replies.specs.declared.found.FoundPlan.{FoundPlan}

-- the reply of a lookup: number, place and the plan, which is 0 on a refusal
unfoldable pub flat_found : Reply → FoundPlan
flat_found a = record { number = a.number; place = a.place; plan = mag (get_or a.values 0 (pos 0)) }

-- what a lookup by y has replied: number 0 with the cheapest plan that meets the value, 13 where none does, either only with the list's own index, and one
-- of the two on a list that a list call made, with what building left in a buffer of 2 bytes a plan or more
pub record FoundPromised (list index : List ℕ) (y : ℤ) (r : FoundPlan) : Type 0 where
  pub cheapest : r.number ≡ 0 → IsCheapest list y r.plan
  pub none : r.number ≡ 13 → NoneMeets list y
  pub own : (r.number ≡ 0) ⊎ (r.number ≡ 13) → index_after list index ≡ index
  pub answers : (s buffer : List ℕ) → Archived s list → index_need list ≤ length buffer → index ≡ index_after list buffer
      → (r.number ≡ 0) ⊎ (r.number ≡ 13)

-- ---- the two cases

pub flat-plan : (f : Found) (r : ℕ) → f ≡ Ok r → record { number = 0; place = 0; plan = r } ≡ flat_found (says_found f)
unfolding flat_found says_found
flat-plan f r e = rw e

pub flat-refused : (f : Found) (r : Refusal) → f ≡ Err r → record { number = number_of r.rule; place = r.place; plan = 0 } ≡ flat_found (says_found f)
unfolding flat_found says_found
flat-refused f r e = rw e

-- ---- the promise

module _ (list index : List ℕ) (y : ℤ) {r : FoundPlan} (e : r ≡ flat_found (lookup_reply list index y))
    (p : LookupPromised list index y (lookup_reply list index y)) where
  same_number : r.number ≡ (lookup_reply list index y).number
  unfolding flat_found
  same_number = ap (λ (f : FoundPlan). f.number) e

  pub found-promised : FoundPromised list index y r
  unfolding flat_found says_found
  found-promised =
      record {
        cheapest = λ z.
            let w = reply-plan list index y (sym same_number ∙ z) in
            subst (IsCheapest list y) (sym (ap (λ (f : FoundPlan). f.plan) (e ∙ ap flat_found w.1))) (p.cheapest w.0 w.1);
        none = λ z. p.none (reply-thirteen list index y (sym same_number ∙ z));
        own = λ w. p.own (⊎_elim (λ (z : r.number ≡ 0). inl (sym same_number ∙ z)) (λ (z : r.number ≡ 13). inr (sym same_number ∙ z)) w);
        answers = λ s buffer a room made.
            ⊎_elim {C = (r.number ≡ 0) ⊎ (r.number ≡ 13)}
            (λ w. inl (same_number ∙ ap (λ (x : Reply). x.number) w.1))
            (λ w. inr (same_number ∙ ap (λ (x : Reply). x.number) w))
            (p.answers s buffer a room made);
      }
