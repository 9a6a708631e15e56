-- Entries of two bytes in a buffer, as a loop goes over them: its place rises by 2, and what is left falls by 1.
use Rattle.std.specs.Prelude.{Bool, true, ◌&&◌, ◌≡◌, refl, length}
use mathlib.Core.List.Memᴰ.{head as here}
use mathlib.Core.List.Memᴰ.{tail as there}
use mathlib.Core.List.{List, [], ◌∷◌}
use Rattle.std.proofs.Common.{sym, ◌∙◌}
use Rattle.std.proofs.Math.Path.{ap, ap₂}
use Prim.Native.Nat.{ℕ, zero, suc, ◌+◌, ◌-◌, ◌*◌, ◌≤◌, ◌<◌}
use native.Mathlib.Omega.{arith}
use Rattle.std.specs.List.{list_all, range_with_len}
use Rattle.order.specs.Lists.{◌∈◌, all}
use Rattle.order.proofs.Lists.{length-nil}
use Rattle.network.specs.Bytes.{u16_at}
use Rattle.network.specs.Indexing.{entries_from}

-- each entry is below k
pub record AllBelow (k : ℕ) (l : List ℕ) : Type 0 where
  pub below : (x : ℕ) → x ∈ l → x < k

-- each entry stands before the next one
unfoldable pub rises_by : (ℕ → ℕ → Bool) → List ℕ → Bool
rises_by p [] = true
rises_by p (x ∷ []) = true
rises_by p (x ∷ y ∷ l) = let r = rises_by p (y ∷ l) in p x y && r

-- there are as many as are asked for
pub entries-length : (n at : ℕ) (bs : List ℕ) → length (entries_from n at bs) ≡ n
unfolding entries_from
entries-length zero at bs = refl
entries-length (suc n) at bs = ap suc (entries-length n (suc (suc at)) bs)

-- ---- a loop over them

module _ (bs : List ℕ) (at left : ℕ) where
  -- the entry at the loop's place, and those behind it
  entries-turn : 0 < left → entries_from left at bs ≡ u16_at bs at ∷ entries_from (left - 1) (at + 2) bs
  unfolding entries_from
  entries-turn more =
      let step : left ≡ suc (left - 1) = omega arith in
      let next : suc (suc at) ≡ at + 2 = omega arith in
      ap (λ (n : ℕ). entries_from n at bs) step ∙ ap (λ (k : ℕ). u16_at bs at ∷ entries_from (left - 1) k bs) next

  -- no entries are left
  entries_none : left ≡ 0 → entries_from left at bs ≡ []
  entries_none e = length-nil (entries_from left at bs) (omega (arith, entries-length left at bs))

  -- a test of each of them
  pub all-turn : (p : ℕ → Bool) {b : Bool} → 0 < left → p (u16_at bs at) ≡ b
      → all p (entries_from left at bs) ≡ b && all p (entries_from (left - 1) (at + 2) bs)
  all-turn p more e = ap (all p) (entries-turn more) ∙ ap (λ (b : Bool). b && all p (entries_from (left - 1) (at + 2) bs)) e

  -- where none are left, all pass it
  pub all_none : (p : ℕ → Bool) → left ≡ 0 → all p (entries_from left at bs) ≡ true
  all_none p e = ap (all p) (entries_none e)

-- fewer than two entries rise
rises-few : (p : ℕ → ℕ → Bool) (l : List ℕ) → length l ≤ 1 → rises_by p l ≡ true
unfolding rises_by
rises-few p [] h = refl
rises-few p (x ∷ []) h = refl
rises-few p (x ∷ y ∷ l) h = absurd (omega arith)

module _ (p : ℕ → ℕ → Bool) (bs : List ℕ) (at left : ℕ) where
  -- a test of each with the next one
  pub rises-turn : {b : Bool} → 1 < left → p (u16_at bs at) (u16_at bs (at + 2)) ≡ b
      → rises_by p (entries_from left at bs) ≡ b && rises_by p (entries_from (left - 1) (at + 2) bs)
  unfolding rises_by
  rises-turn more e =
      let next = entries-turn bs (at + 2) (left - 1) (omega arith) in
      ap (rises_by p) (entries-turn bs at left (omega arith) ∙ ap (λ (l : List ℕ). u16_at bs at ∷ l) next)
      ∙ ap₂ (λ (b : Bool) (l : List ℕ). b && rises_by p l) e (sym next)

  -- where one is left at most, they rise
  pub rises-none : left ≤ 1 → rises_by p (entries_from left at bs) ≡ true
  rises-none h = rises-few p (entries_from left at bs) (omega (arith, entries-length left at bs))

-- ---- the same by the number of an entry

module _ (bs : List ℕ) (n r : ℕ) where
  next-at : (r + 1) * 2 ≡ r * 2 + 2
  next-at = omega arith

  -- a test of entry r, and of those behind it
  pub all-next : (p : ℕ → Bool) {b : Bool} → r < n → p (u16_at bs (r * 2)) ≡ b
      → all p (entries_from (n - r) (r * 2) bs) ≡ b && all p (entries_from (n - (r + 1)) ((r + 1) * 2) bs)
  all-next p {b} more e =
      let left : n - r - 1 ≡ n - (r + 1) = omega arith in
      all-turn bs (r * 2) (n - r) p (omega arith) e
      ∙ ap₂ (λ (k at : ℕ). b && all p (entries_from k at bs)) left (sym next-at)

  -- a test of entry r with the one before it
  pub rises-next : (p : ℕ → ℕ → Bool) {b : Bool} → 0 < r → r < n → p (u16_at bs ((r - 1) * 2)) (u16_at bs (r * 2)) ≡ b
      → rises_by p (entries_from (n - (r - 1)) ((r - 1) * 2) bs) ≡ b && rises_by p (entries_from (n - (r + 1 - 1)) ((r + 1 - 1) * 2) bs)
  rises-next p {b} some more e =
      let left : n - (r - 1) - 1 ≡ n - (r + 1 - 1) = omega arith in
      let at : (r - 1) * 2 + 2 ≡ (r + 1 - 1) * 2 = omega arith in
      let here : (r - 1) * 2 + 2 ≡ r * 2 = omega arith in
      rises-turn p bs ((r - 1) * 2) (n - (r - 1)) (omega arith) (ap (λ (k : ℕ). p (u16_at bs ((r - 1) * 2)) (u16_at bs k)) here ∙ e)
      ∙ ap₂ (λ (k a : ℕ). b && rises_by p (entries_from k a bs)) left at

-- ---- tests of the entries read by their numbers

-- an entry is below what all of them are below
pub entry-below : {k : ℕ} (bs : List ℕ) (n at r : ℕ) → AllBelow k (entries_from n at bs) → r < n → u16_at bs (at + r * 2) < k
unfolding entries_from
entry-below bs zero at r h l = absurd (omega arith)
entry-below bs (suc n) at zero h l =
    let place : at + 0 * 2 ≡ at = omega arith in
    omega (arith, h.below (u16_at bs at) (here refl), ap (u16_at bs) place)
entry-below bs (suc n) at (suc r) h l =
    let place : suc (suc at) + r * 2 ≡ at + suc r * 2 = omega arith in
    omega (arith, entry-below bs n (suc (suc at)) r (record { below = λ x m. h.below x (there m) }) (omega arith), ap (u16_at bs) place)

module _ (bs : List ℕ) (n : ℕ) where
  -- a test of each
  pub read-all : (p : ℕ → Bool) → list_all (λ r. p (u16_at bs (r * 2))) (range_with_len 0 n) ≡ all p (entries_from n 0 bs)
  read-all p = let all_left : n - 0 ≡ n = omega arith in go n 0 (omega arith) ∙ ap (λ (k : ℕ). all p (entries_from k 0 bs)) all_left
    where
      go : (k r : ℕ) → k ≡ n - r → list_all (λ i. p (u16_at bs (i * 2))) (range_with_len r k) ≡ all p (entries_from (n - r) (r * 2) bs)
      go zero r e = sym (all_none bs (r * 2) (n - r) p (omega arith))
      go (suc k) r e = ap (λ (b : Bool). p (u16_at bs (r * 2)) && b) (go k (r + 1) (omega arith)) ∙ sym (all-next bs n r p (omega arith) refl)

  -- a test of each with the one before it
  pub read-rises : (p : ℕ → ℕ → Bool)
      → list_all (λ r. p (u16_at bs ((r - 1) * 2)) (u16_at bs (r * 2))) (range_with_len 1 (n - 1)) ≡ rises_by p (entries_from n 0 bs)
  read-rises p = let all_left : n - 0 ≡ n = omega arith in go (n - 1) 1 (omega arith) refl ∙ ap (λ (k : ℕ). rises_by p (entries_from k 0 bs)) all_left
    where
      go : (k r : ℕ) → 0 < r → k ≡ n - r
          → list_all (λ i. p (u16_at bs ((i - 1) * 2)) (u16_at bs (i * 2))) (range_with_len r k) ≡ rises_by p (entries_from (n - (r - 1)) ((r - 1) * 2) bs)
      go zero r some e = sym (rises-none p bs ((r - 1) * 2) (n - (r - 1)) (omega arith))
      go (suc k) r some e =
          ap (λ (b : Bool). p (u16_at bs ((r - 1) * 2)) (u16_at bs (r * 2)) && b) (go k (r + 1) (omega arith) (omega arith))
          ∙ sym (rises-next bs n r p some (omega arith) refl)
