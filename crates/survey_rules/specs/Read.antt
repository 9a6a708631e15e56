-- The costs of absent ceilings, read from the link record at an index one after the other.
use Rattle.std.specs.Prelude.{ℕ, zero, suc, ◌+◌, ◌-◌, ◌≤◌, ◌<◌, Bool, true, false, not, ◌||◌, eqb, List, ◌≡◌, get_or, length}
use Rattle.std.specs.List.{list_any, range_with_len}
use Rattle.std.proofs.Common.{◌∙◌, sym, refl, arith}
use borrow.Author.Tests.{eqb-true, eqb-false}
use Rattle.network.specs.Refusals.{absent_costs}
use Rattle.network.specs.Survey.{cost_bits, cost_bits_in}
use Rattle.network.proofs.Tabulate.{tabulate-at, tabulate-length}
use Rattle.survey_rules.specs.Absent.{absent-found, absent_none, absent-turn}

module _ (slots : ℕ) (s : List ℕ) (at : ℕ) where
  bits-length : length (cost_bits slots s at) ≡ slots
  unfolding cost_bits
  bits-length = tabulate-length (cost_bits_in s at) slots

  module _ (j : ℕ) where
    bits_at : j < slots → get_or (cost_bits slots s at) j 0 ≡ cost_bits_in s at j
    unfolding cost_bits
    bits_at h = tabulate-at (cost_bits_in s at) slots j h 0

    -- the first that is left is not 0
    pub read_found : {x : ℕ} → j < slots → x ≡ cost_bits_in s at j → (x ≡ 0 → ⊥) → absent_costs j (cost_bits slots s at) ≡ true
    read_found h e q = absent-found _ j (rw bits-length h) (λ z. q (e ∙ sym (bits_at h) ∙ z))

    -- it is 0
    pub read-turn : {x : ℕ} → j < slots → x ≡ cost_bits_in s at j → x ≡ 0 → absent_costs j (cost_bits slots s at) ≡ absent_costs (j + 1) (cost_bits slots s at)
    read-turn h e q = absent-turn _ j (rw bits-length h) (bits_at h ∙ sym e ∙ q)

    -- none is left
    pub read_none : slots ≤ j → absent_costs j (cost_bits slots s at) ≡ false
    read_none h = absent_none _ j (rw bits-length h)

  -- the costs that are read one after the other from ceiling p on
  pub read-any : (p : ℕ) → list_any (λ j. not (eqb (cost_bits_in s at j) 0)) (range_with_len p (slots - p)) ≡ absent_costs p (cost_bits slots s at)
  read-any p = go (slots - p) p (omega arith)
    where
      go : (n j : ℕ) → n ≡ slots - j → list_any (λ i. not (eqb (cost_bits_in s at i) 0)) (range_with_len j n) ≡ absent_costs j (cost_bits slots s at)
      go zero j e = sym (read_none j (omega arith))
      go (suc n) j e = pick (eqb (cost_bits_in s at j) 0) refl (go n (j + 1) (omega arith))
        where
          pick : (b : Bool) → eqb (cost_bits_in s at j) 0 ≡ b
              → list_any (λ i. not (eqb (cost_bits_in s at i) 0)) (range_with_len (j + 1) n) ≡ absent_costs (j + 1) (cost_bits slots s at)
              → not b || list_any (λ i. not (eqb (cost_bits_in s at i) 0)) (range_with_len (j + 1) n) ≡ absent_costs j (cost_bits slots s at)
          pick true q ih = ih ∙ sym (read-turn j (omega arith) refl (eqb-true _ _ q))
          pick false q ih = sym (read_found j (omega arith) refl (eqb-false _ _ q))
