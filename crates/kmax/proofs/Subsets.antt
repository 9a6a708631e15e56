-- All subsequences of a list with at most r elements.
use mathlib.Core.List.Memᴰ
use mathlib.Core.List.Memᴰ.{head as here}
use mathlib.Core.List.Memᴰ.{tail as there}
use Rattle.std.specs.Prelude.{List, [], ◌∷◌, map, ◌≡◌, refl, ℕ, suc, ◌≤◌, zero, length}
use mathlib.Core.List.Sublistᴰ
use mathlib.Core.List.{Sublistᴰ}
use Rattle.std.proofs.Common.{⊎_elim, arith}
use Rattle.order.specs.Lists.{◌∈◌}
use Rattle.order.proofs.Lists.{length-nil, map-mem}
use Rattle.kmax.specs.Subsets.{subsets}

module _ {A : Type 0} where
  mem-extend : {x y : A} → x ≡ y → {s : List A} {ss : List (List A)} → s ∈ ss → x ∷ s ∈ map (λ t. y ∷ t) ss
  mem-extend q (here e) = here (λ i. q i ∷ e i)
  mem-extend q (there m) = there (mem-extend q m)

  -- every subsequence with at most r elements is there
  pub subsets-complete : (r : ℕ) {s xs : List A} → Sublistᴰ s xs → length s ≤ r → s ∈ subsets r xs
  subsets-complete r Sublistᴰ.slnil l = here refl
  subsets-complete zero (Sublistᴰ.cons h) l = here (length-nil _ l)
  subsets-complete (suc r) (Sublistᴰ.cons h) l = Memᴰ.append_left _ (subsets-complete (suc r) h l)
  subsets-complete zero (Sublistᴰ.cons-cons e h) l = absurd (omega arith)
  subsets-complete (suc r) (Sublistᴰ.cons-cons {l₂ = ys} e h) l = Memᴰ.append_right (subsets (suc r) ys) (mem-extend e (subsets-complete r h (omega arith)))

  -- and nothing else
  pub subsets-sound : (r : ℕ) (xs : List A) {s : List A} → s ∈ subsets r xs → (Sublistᴰ s xs) × (length s ≤ r)
  subsets-sound r [] m = rw (Memᴰ.eq_of_singleton m) (Sublistᴰ.slnil, omega arith)
  subsets-sound zero (x ∷ xs) m = rw (Memᴰ.eq_of_singleton m) (Sublistᴰ.nil-sublist (x ∷ xs), omega arith)
  subsets-sound (suc r) (x ∷ xs) m =
      ⊎_elim
      (λ n. let i = subsets-sound (suc r) xs n in (Sublistᴰ.cons i.0, i.1))
      (λ n. let t = map-mem (λ t. x ∷ t) (subsets r xs) _ n in
      let i = subsets-sound r xs {s = t.0} t.1 in
      rw t.2 (Sublistᴰ.cons-cons refl i.0, omega arith))
      (Memᴰ.append_cases (subsets (suc r) xs) m)
