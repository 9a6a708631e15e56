-- An array that a function of the index made, element by element: what `array::from_fn` hands back.
use Rattle.std.specs.Prelude.{ℕ, zero, suc, ◌+◌, ◌<◌, ◌≡◌, refl, List, length, get_or}
use Rattle.std.proofs.Common.{◌∙◌, sym, subst, add-zero, zero-add, arith}
use Rattle.std.specs.Array.{IsFromFnResult, IsFromFnResultFrom}
use Rattle.std.specs.Fn.{Called, Mut}
use Rattle.std.proofs.Math.Seq.{ext_get_or}

module _ {F A : Type 0} (g : Mut F (ℕ × Unit {0}) A) (f : F) (h : ℕ → A) (each : (i : ℕ) (r : A) (q : F) → Called g f (i, tt) r q → (q ≡ f) × (r ≡ h i)) where
  made-from : (ys : List A) (i n : ℕ) (q : F) → q ≡ f → IsFromFnResultFrom g q ys i n → (j : ℕ) → j < n → (d : A) → get_or ys (i + j) d ≡ h (i + j)
  made-from ys i zero q e m j k d = absurd (omega arith)
  made-from ys i (suc n) q e (r, y, at, called, rest) zero k d =
      let own : Called g f (i, tt) y r = subst (λ (u : F). Called g u (i, tt) y r) e called in
      rw add-zero (at.1 d ∙ (each i y r own).1)
  made-from ys i (suc n) q e (r, y, at, called, rest) (suc j) k d =
      let own : Called g f (i, tt) y r = subst (λ (u : F). Called g u (i, tt) y r) e called in
      let next : i + 1 + j ≡ i + suc j = omega arith in
      subst (λ (l : ℕ). get_or ys l d ≡ h l) next (made-from ys (i + 1) n r (each i y r own).0 rest j (omega arith) d)

  -- the array is each list of as many elements that the function gives
  pub made : (ys zs : List A) (n : ℕ) → IsFromFnResult g f ys n → length zs ≡ n → (d : A) → ((i : ℕ) → i < n → get_or zs i d ≡ h i) → ys ≡ zs
  made ys zs n m size d same =
      ext_get_or d ys zs (m.long ∙ sym size)
      (λ j k.
      let l : j < n = omega (arith, m.long) in
      subst (λ (i : ℕ). get_or ys i d ≡ h i) (zero-add j) (made-from ys 0 n f refl m.each j l d) ∙ sym (same j l))
