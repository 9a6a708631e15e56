-- Bytes that are written over others, and what stands before, at and after them.
use Rattle.std.specs.Prelude.{◌≡◌}
use Rattle.std.proofs.Math.Path.{refl, sym, ap}
use Rattle.std.proofs.Common.{ap₂, ◌∙◌, add_assoc, add-zero, drop_of_length-le, take-append-drop, drop_at, take-add}
use mathlib.Core.List.{List, [], ◌++◌, append_assoc, append-nil}
use Prim.Native.Nat.{ℕ, ◌+◌, ◌-◌, ◌≤◌}
use native.Mathlib.Omega.{arith}
use Rattle.std.proofs.Math.ListN.{length, take, drop, length-append, length-drop}
use Rattle.std.proofs.Math.Seq.{length-take-le, take_at, drop-drop, take-append-le, take-take, paste}

-- d with the bytes from index i on replaced by s
unfoldable pub overwrite : {A : Type 0} → List A → ℕ → List A → List A
overwrite d i s = take i d ++ s ++ drop (i + length s) d

module _ {A : Type 0} (d : List A) (i : ℕ) (s : List A) where
  -- what stands before the end of the bytes put in
  length_front : i ≤ length d → length (take i d ++ s) ≡ i + length s
  length_front h = length-append (take i d) s ∙ ap (λ (k : ℕ). k + length s) (length-take-le i d h)

  -- the length stays
  pub length-overwrite : i + length s ≤ length d → length (overwrite d i s) ≡ length d
  unfolding overwrite
  length-overwrite h =
      let e = length-append (take i d ++ s) (drop (i + length s) d) in
      let f = length_front (omega arith) in
      let g = length-drop (i + length s) d in
      omega arith

  -- the bytes before those that were written stay
  pub take-overwrite : (k : ℕ) → k ≤ i → i ≤ length d → take k (overwrite d i s) ≡ take k d
  unfolding overwrite
  take-overwrite k h g =
      let e = length-take-le i d g in
      let f = length_front g in
      take-append-le k (take i d ++ s) (drop (i + length s) d) (omega arith)
      ∙ take-append-le k (take i d) s (omega arith)
      ∙ take-take k i d h

  -- so do those after them
  pub drop-overwrite : (k : ℕ) → i + length s ≤ k → i ≤ length d → drop k (overwrite d i s) ≡ drop k d
  unfolding overwrite
  drop-overwrite k h g =
      let j = i + length s in
      let e : j + (k - j) ≡ k = omega arith in
      ap (λ (n : ℕ). drop n (overwrite d i s)) (sym e)
      ∙ sym (drop-drop (k - j) j (overwrite d i s))
      ∙ ap (drop (k - j)) (drop_at (take i d ++ s) (drop j d) j (length_front g))
      ∙ drop-drop (k - j) j d
      ∙ ap (λ (n : ℕ). drop n d) e

  -- what was written stands there
  pub written : i ≤ length d → take (length s) (drop i (overwrite d i s)) ≡ s
  unfolding overwrite
  written g =
      ap (λ (l : List A). take (length s) (drop i l)) (append_assoc (take i d) s (drop (i + length s) d))
      ∙ ap (take (length s)) (drop_at (take i d) (s ++ drop (i + length s) d) i (length-take-le i d g))
      ∙ take_at s (drop (i + length s) d) (length s) refl

  -- bytes that are written up to the end
  pub overwrite-end : length d ≤ i + length s → overwrite d i s ≡ take i d ++ s
  unfolding overwrite
  overwrite-end h = ap (λ (l : List A). take i d ++ s ++ l) (drop_of_length-le d h) ∙ append-nil (take i d ++ s)

  -- a copy of the first n bytes of s, as lib.Seq's `paste` has it
  pub paste-overwrite : (n : ℕ) → n ≤ length s → paste d i s n ≡ overwrite d i (take n s)
  unfolding overwrite
  paste-overwrite n h = ap (λ (k : ℕ). take i d ++ take n s ++ drop (i + k) d) (sym (length-take-le n s h))

  -- two writes one after the other are one
  overwrite-then : (j : ℕ) (t : List A) → j ≡ i + length s → i ≤ length d → overwrite (overwrite d i s) j t ≡ overwrite d i (s ++ t)
  unfolding overwrite
  overwrite-then j t e h =
      let p : List A = take i d ++ s in
      let x : List A = p ++ drop (i + length s) d in
      let lp : length p ≡ j = length_front h ∙ sym e in
      let behind : drop (j + length t) x ≡ drop (i + length (s ++ t)) d =
      sym (drop-drop (length t) j x)
      ∙ ap (drop (length t)) (drop_at p (drop (i + length s) d) j lp)
      ∙ drop-drop (length t) (i + length s) d
      ∙ ap (λ (k : ℕ). drop k d) (add_assoc i (length s) (length t) ∙ ap (λ (k : ℕ). i + k) (sym (length-append s t))) in
      ap (λ (l : List A). l ++ t ++ drop (j + length t) x) (take_at p (drop (i + length s) d) j lp)
      ∙ ap (λ (l : List A). p ++ t ++ l) behind
      ∙ ap (λ (l : List A). l ++ drop (i + length (s ++ t)) d) (append_assoc (take i d) s t)

  -- the same, of bytes that are known by equations
  pub overwrite-chain : (j : ℕ) (t : List A) {o o' : List A} → o' ≡ overwrite o j t → o ≡ overwrite d i s → j ≡ i + length s → i ≤ length d
      → o' ≡ overwrite d i (s ++ t)
  overwrite-chain j t e' e k h = e' ∙ ap (λ (l : List A). overwrite l j t) e ∙ overwrite-then j t k h

-- bytes written where they stand
pub overwrite-same : {A : Type 0} (d : List A) (i n : ℕ) → i + n ≤ length d → overwrite d i (take n (drop i d)) ≡ d
unfolding overwrite
overwrite-same {A} d i n h =
    let l = length-drop i d in
    ap (λ (k : ℕ). take i d ++ take n (drop i d) ++ drop (i + k) d) (length-take-le n (drop i d) (omega arith))
    ∙ ap (λ (p : List A). p ++ drop (i + n) d) (sym (take-add i n d))
    ∙ take-append-drop (i + n) d

-- no bytes written
pub overwrite-nothing : {A : Type 0} (d : List A) (i : ℕ) → d ≡ overwrite d i []
unfolding overwrite
overwrite-nothing {A} d i =
    sym (ap₂ (λ (a b : List A). a ++ b) (append-nil (take i d)) (ap (λ (k : ℕ). drop k d) (add-zero i)) ∙ take-append-drop i d)
