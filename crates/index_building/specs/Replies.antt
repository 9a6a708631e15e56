-- What building replies and leaves, by what the code finds.
use Rattle.std.specs.Prelude.{Ok, Err, is_ok, not, true, false, List, ◌≡◌, ℕ, ◌≤◌, ◌<◌, length}
use Rattle.std.proofs.Math.Path.{refl, sym, ap}
use Rattle.std.proofs.Common.{◌∙◌}
use borrow.Author.Tests.{le-ltb, lt-ltb}
use Rattle.order.specs.Test.{by-test, clash}
use Rattle.order.specs.Lists.{all}
use Rattle.network.specs.Checked.{Checked, no_refusal, refuse_if, ◌or_else◌}
use Rattle.network.specs.Calls.{if_fine}
use Rattle.network.specs.declared.refusals.Refusal.{Refusal}
use Rattle.network.specs.declared.refusals.Rule.TheVariants.{DamagedList, ShortIndex}
use Rattle.network.specs.Fetching.{damaged, is_marked}
use Rattle.network.specs.Indexing.{index_after, index_checked, index_in, index_need, plan_numbers, unfit}

-- ---- whether a list is fit

module _ (list : List ℕ) where
  pub unfit-damaged : damaged list ≡ true → unfit list ≡ true
  unfolding unfit
  unfit-damaged e = rw e

  pub unfit-unmarked : damaged list ≡ false → all (is_marked list) (plan_numbers list) ≡ false → unfit list ≡ true
  unfolding unfit
  unfit-unmarked e f = rw (e, f)

  pub fit-marked : damaged list ≡ false → all (is_marked list) (plan_numbers list) ≡ true → unfit list ≡ false
  unfolding unfit
  fit-marked e f = rw (e, f)

  pub fit-intact : unfit list ≡ false → damaged list ≡ false
  unfolding unfit
  fit-intact e = by-test (damaged list) (λ d. clash refl (rw d at e)) (λ d. d)

-- ---- the reply, and the buffer

module _ (list buffer : List ℕ) where
  -- 12: the list is not fit
  pub built-unfit : unfit list ≡ true → (Err (record { rule = DamagedList; place = 0 }) ≡ index_checked list (length buffer)) × (buffer ≡ index_after list buffer)
  unfolding index_after index_checked if_fine refuse_if ◌or_else◌
  built-unfit e = (rw e, rw e)

  module _ (fit : unfit list ≡ false) where
    -- 16: the buffer is short
    pub built-short : length buffer < index_need list
        → (Err (record { rule = ShortIndex; place = 0 }) ≡ index_checked list (length buffer)) × (buffer ≡ index_after list buffer)
    unfolding index_after index_checked if_fine refuse_if ◌or_else◌
    built-short h = let s = lt-ltb (length buffer) (index_need list) h in (rw (fit, s), rw (fit, s))

    -- 0: it holds the index
    pub built-fits : {after : List ℕ} → index_need list ≤ length buffer → after ≡ index_in list buffer
        → (no_refusal ≡ index_checked list (length buffer)) × (after ≡ index_after list buffer)
    unfolding index_after index_checked if_fine refuse_if ◌or_else◌
    built-fits h q = let s = le-ltb (length buffer) (index_need list) h in (rw (fit, s), rw (fit, s) q)

-- ---- by what reading the keys found

module _ (list : List ℕ) (intact : damaged list ≡ false) {r : Checked} (marked : r ≡ refuse_if (not (all (is_marked list) (plan_numbers list))) DamagedList 0) where
  -- a refusal: the list is not fit
  pub read-refused : (buffer : List ℕ) {e : Refusal} → r ≡ Err e → (Err e ≡ index_checked list (length buffer)) × (buffer ≡ index_after list buffer)
  unfolding refuse_if
  read-refused buffer {e} refused =
      by-test (all (is_marked list) (plan_numbers list))
      (λ t. clash refl (ap is_ok (sym (rw t at marked) ∙ refused)))
      (λ t.
      let both = built-unfit list buffer (unfit-unmarked list intact t) in
      (sym refused ∙ rw t at marked ∙ both.0, both.1))

  -- none: it is fit
  pub read-fit : {u : Unit {0}} → r ≡ Ok u → unfit list ≡ false
  unfolding refuse_if
  read-fit fine =
      by-test (all (is_marked list) (plan_numbers list))
      (λ t. fit-marked list intact t)
      (λ t. clash refl (ap is_ok (sym fine ∙ rw t at marked)))
