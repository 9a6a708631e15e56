-- An array after its front was lent and came back as l.
use Rattle.std.specs.Prelude.{List, ◌++◌, ◌≡◌, ℕ, ◌≤◌, drop, length, take}
use Rattle.std.proofs.Common.{ap, ◌∙◌, arith, length-append, length-drop, take_at}

-- its front is l, which lies inside, and it is as long as it was
pub lent_back : {A : Type 0} (l array : List A) (p : ℕ) {size : ℕ} → length l ≡ p → length array ≡ size → p ≤ size
    → (take p (l ++ drop p array) ≡ l) × (length (take p (l ++ drop p array)) ≡ p) × (p ≤ length (l ++ drop p array)) × (length (l ++ drop p array) ≡ size)
lent_back l array p n s h =
    let front = take_at l (drop p array) p n in
    let all = length-append l (drop p array) in
    (front, ap length front ∙ n, omega arith, all ∙ omega (arith, length-drop p array))
