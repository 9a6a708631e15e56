-- Marking a box of positions in an array of marks.
use Rattle.std.specs.Prelude.{◌≡◌, Bool, true, false, ◌||◌, List, [], ◌∷◌, ◌++◌, drop, length, get_or, replicate, set, take}
use Rattle.std.proofs.Math.Path.{refl, ap, subst, subst⁻¹}
use Rattle.std.proofs.Common.{sym, ◌∙◌, add-one, suc-mul, mul_comm, mul-le-mul_right, arith, drop-drop, drop-set-lt, length-set, take-suc-set}
use Rattle.std.proofs.Math.Seq.{append_snoc}
use Rattle.std.proofs.lemmas.List.{take-append-drop}
use borrow.Rule.Slice.PartMut.{put_mid}
use Rattle.marking.specs.declared.mark.Side.{Side}
use Prim.Native.Nat.{ℕ, zero, suc, ◌+◌, ◌*◌, ◌-◌, ◌≤◌, ◌<◌}

-- a side of so many places, whose positions have numbers so far apart
abbrev pub side : ℕ → ℕ → Side
side s n = record { stride = s; count = n }

-- do f at n indices, s apart
unfoldable pub sweep : (ℕ → List Bool → List Bool) → ℕ → ℕ → ℕ → List Bool → List Bool
sweep f s zero at ms = ms
sweep f s (suc n) at ms = sweep f s n (at + s) (f at ms)

-- mark the box with these sides whose first position has the number `at`
abbrev pub paint : List Side → ℕ → List Bool → List Bool
paint [] at ms = set ms at true
paint (r ∷ rs) at ms = sweep (paint rs) r.stride r.count at ms

-- a turn of a loop that sweeps
pub sweep-turn : (f : ℕ → List Bool → List Bool) (s n at : ℕ) (ms : List Bool) → 0 < n → sweep f s n at ms ≡ sweep f s (n - 1) (at + s) (f at ms)
unfolding sweep
sweep-turn f s zero at ms h = absurd (omega arith)
sweep-turn f s (suc n) at ms h = let e : n ≡ suc n - 1 = omega arith in ap (λ (k : ℕ). sweep f s k (at + s) (f at ms)) e

-- its end
pub sweep-end : (f : ℕ → List Bool → List Bool) (s n at : ℕ) (ms : List Bool) → n ≡ 0 → sweep f s n at ms ≡ ms
unfolding sweep
sweep-end f s n at ms e = ap (λ (k : ℕ). sweep f s k at ms) e

-- a sweep with stride 1 that marks fills a part
pub row-filled : (n at : ℕ) (ms : List Bool) → at + n ≤ length ms → put_mid at n ms (replicate n true) ≡ sweep (paint []) 1 n at ms
unfolding sweep
row-filled zero at ms h = take-append-drop at ms
row-filled (suc n) at ms h =
    let inside : at < length ms = omega arith in
    let later : drop (suc n) (drop at ms) ≡ drop n (drop (suc at) (set ms at true)) =
    drop-drop (suc n) at ms ∙ ap (λ (k : ℕ). drop k ms) (omega arith) ∙ sym (drop-drop n (suc at) ms) ∙ ap (drop n) (sym (drop-set-lt (suc at) ms at true (omega arith))) in
    ap (λ (l : List Bool). take at ms ++ (true ∷ (replicate n true ++ l))) later
    ∙ sym (append_snoc (take at ms) true (replicate n true ++ drop n (drop (suc at) (set ms at true))))
    ∙ ap (λ (l : List Bool). l ++ (replicate n true ++ drop n (drop (suc at) (set ms at true)))) (sym (take-suc-set ms at true inside))
    ∙ ap (λ (k : ℕ). put_mid k n (set ms at true) (replicate n true)) (sym (add-one at))
    ∙ row-filled n (at + 1) (set ms at true) (simp length-set (omega arith))

pub length-sweep : (f : ℕ → List Bool → List Bool) → ((i : ℕ) (ms : List Bool) → length (f i ms) ≡ length ms) → (s n at : ℕ) (ms : List Bool)
    → length (sweep f s n at ms) ≡ length ms
unfolding sweep
length-sweep f same s zero at ms = refl
length-sweep f same s (suc n) at ms = length-sweep f same s n (at + s) (f at ms) ∙ same at ms

pub length-paint : (rs : List Side) (at : ℕ) (ms : List Bool) → length (paint rs at ms) ≡ length ms
length-paint [] at ms = simp length-set
length-paint (r ∷ rs) at ms = length-sweep (paint rs) (length-paint rs) r.stride r.count at ms

-- Where a sweep leaves mark y alone, and where just one of its turns sets it.
module _ (f : ℕ → List Bool → List Bool) (same : (i : ℕ) (ms : List Bool) → length (f i ms) ≡ length ms) (s y : ℕ) where
  -- f at index i leaves mark y alone
  abbrev pub Off : ℕ → Type 0
  Off i = (ms : List Bool) → get_or (f i ms) y false ≡ get_or ms y false

  -- f at index i sets it if b
  abbrev pub On : ℕ → Bool → ℕ → Type 0
  On size b i = (ms : List Bool) → length ms ≡ size → get_or (f i ms) y false ≡ b || get_or ms y false

  next-index : (at m : ℕ) → at + s + m * s ≡ at + suc m * s
  next-index at m = omega (arith, suc-mul m s)

  first-index : (at : ℕ) → at + 0 * s ≡ at
  first-index at = omega arith

  pub sweep-off : (n at : ℕ) → ((m : ℕ) → m < n → Off (at + m * s)) → (ms : List Bool) → get_or (sweep f s n at ms) y false ≡ get_or ms y false
  unfolding sweep
  sweep-off zero at off ms = refl
  sweep-off (suc n) at off ms =
      sweep-off n (at + s) (λ m h. subst⁻¹ Off (next-index at m) (off (suc m) (omega arith))) (f at ms)
      ∙ subst Off (first-index at) (off 0 (omega arith)) ms

  pub sweep-on : (size : ℕ) (b : Bool) (n at k : ℕ) → k < n → ((m : ℕ) → m < n → (m ≡ k → ⊥) → Off (at + m * s)) → On size b (at + k * s)
      → (ms : List Bool) → length ms ≡ size → get_or (sweep f s n at ms) y false ≡ b || get_or ms y false
  unfolding sweep
  sweep-on size b zero at k h off on ms l = absurd (omega arith)
  sweep-on size b (suc n) at zero h off on ms l =
      sweep-off n (at + s) (λ m g. subst⁻¹ Off (next-index at m) (off (suc m) (omega arith) (λ e. omega arith))) (f at ms)
      ∙ subst (On size b) (first-index at) on ms l
  sweep-on size b (suc n) at (suc k) h off on ms l =
      sweep-on size b n (at + s) k (omega arith) (λ m g ne. subst⁻¹ Off (next-index at m) (off (suc m) (omega arith) (λ e. ne (omega arith))))
      (subst⁻¹ (On size b) (next-index at k) on) (f at ms) (same at ms ∙ l)
      ∙ ap (λ (v : Bool). b || v) (subst Off (first-index at) (off 0 (omega arith) (λ e. omega arith)) ms)

-- the rows before a later one
pub rows-before : (s k n : ℕ) → k < n → k * s + s ≤ s * n
rows-before s k n h = omega (arith, mul-le-mul_right s h, suc-mul k s, mul_comm n s)

-- the turn of a loop at row k of n
module _ (f : ℕ → List Bool → List Bool) (s k n at : ℕ) (ms : List Bool) (h : k < n) where
  pub row-turn : {ms' : List Bool} → ms' ≡ f (at + k * s) ms → sweep f s (n - (k + 1)) (at + (k + 1) * s) ms' ≡ sweep f s (n - k) (at + k * s) ms
  row-turn e =
      let fewer : n - (k + 1) ≡ n - k - 1 = omega arith in
      let next : at + (k + 1) * s ≡ at + k * s + s = omega arith in
      (λ i. sweep f s (fewer i) (next i) (e i)) ∙ sym (sweep-turn f s (n - k) (at + k * s) ms (omega arith))
