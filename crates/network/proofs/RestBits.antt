-- The stations at rest, byte by byte: station j is bit j % 8, counted from the low end, of byte j / 8.
use Rattle.std.specs.Prelude.{ℕ, zero, suc, ◌+◌, ◌-◌, ◌*◌, ◌/◌, ◌%◌, ◌^◌, ◌≤◌, ◌<◌, false, true, List, ◌≡◌, eqb, ltb}
use Rattle.std.proofs.Common.{sym, ap, ap₂, ◌∙◌, div-one, le_of_suc-le-suc, mul_assoc, pow-suc, arith, ltb-false, ltb-true}
use Rattle.std.proofs.Math.Nat.{div-div-eq-div-mul, pow-succ', pow-zero}
use Rattle.order.specs.Test.{by-test}
use Rattle.network.specs.Bytes.{byte_at, u24_at}
use Rattle.network.specs.Yard.{works}
use Rattle.network.specs.WritingPromise.{OfBytes}

-- bit j of a number
abbrev bit : ℕ → ℕ → ℕ
bit n j = n / 2 ^ j % 2

-- a bit further up is that of the half
bit-next : (n j : ℕ) → bit n (suc j) ≡ bit (n / 2) j
bit-next n j = ap (λ (d : ℕ). n / d % 2) (pow-succ' 2 j) ∙ sym (ap (λ (d : ℕ). d % 2) (div-div-eq-div-mul n 2 (2 ^ j)))

bit-first : (n : ℕ) → bit n 0 ≡ n % 2
bit-first n = ap (λ (d : ℕ). n / d % 2) (pow-zero 2) ∙ ap (λ (d : ℕ). d % 2) (div-one n)

-- a number of w + 1 low bits b below x
twice : (w x : ℕ) → x * 2 ^ suc w ≡ x * 2 ^ w * 2
twice w x = ap (λ (d : ℕ). x * d) (pow-suc 2 w) ∙ sym (mul_assoc x (2 ^ w) 2)

half : (w b x : ℕ) → (b + x * 2 ^ suc w) / 2 ≡ b / 2 + x * 2 ^ w
half w b x = rw (twice w x) (omega arith)

-- the w low bits are those of b,
bits-low : (w b x j : ℕ) → j < w → bit (b + x * 2 ^ w) j ≡ bit b j
bits-low zero b x j h = absurd (omega arith)
bits-low (suc w) b x zero h = bit-first (b + x * 2 ^ suc w) ∙ rw (twice w x) (omega arith) ∙ sym (bit-first b)
bits-low (suc w) b x (suc j) h =
    bit-next (b + x * 2 ^ suc w) j ∙ ap (λ (n : ℕ). bit n j) (half w b x) ∙ bits-low w (b / 2) x j (le_of_suc-le-suc h) ∙ sym (bit-next b j)

-- and those above them those of x
bits-high : (w b x j : ℕ) → b < 2 ^ w → bit (b + x * 2 ^ w) (w + j) ≡ bit x j
bits-high zero b x j h =
    let none : b + x * 2 ^ 0 ≡ x = rw (pow-zero 2) (omega (arith, pow-zero 2)) in
    let same : zero + j ≡ j = omega arith in
    ap₂ bit none same
bits-high (suc w) b x j h =
    let less : b / 2 < 2 ^ w = omega (arith, pow-suc 2 w) in
    let next : suc w + j ≡ suc (w + j) = omega arith in
    ap (bit (b + x * 2 ^ suc w)) next
    ∙ bit-next (b + x * 2 ^ suc w) (w + j) ∙ ap (λ (n : ℕ). bit n (w + j)) (half w b x) ∙ bits-high w (b / 2) x j less

-- three bytes as one number
three : (s : List ℕ) (at : ℕ) → u24_at s at ≡ byte_at s at + (byte_at s (at + 1) + byte_at s (at + 2) * 2 ^ 8) * 2 ^ 8
three s at = omega arith

-- THE THEOREM
pub rest-said : (s : List ℕ) → OfBytes s → (at j : ℕ) → j < 24 → works (u24_at s at) j ≡ eqb (byte_at s (at + j / 8) / 2 ^ (j % 8) % 2) 0
unfolding works
rest-said s bytes at j h = ap (λ (b : ℕ). eqb b 0) (ap (λ (n : ℕ). bit n j) (three s at) ∙ by-test (ltb j 8) first (λ e. by-test (ltb j 16) (second e) third))
  where
    b : ℕ → ℕ
    b i = byte_at s (at + i)

    said : (i k : ℕ) → j ≡ i * 8 + k → k < 8 → bit (b i) k ≡ bit (byte_at s (at + j / 8)) (j % 8)
    said i k e less =
        let byte : i ≡ j / 8 = omega arith in
        let place : k ≡ j % 8 = omega arith in
        ap₂ (λ (y z : ℕ). bit (b y) z) byte place

    start : bit (byte_at s at) j ≡ bit (b 0) j
    start = let e : at ≡ at + 0 = omega arith in ap (λ (i : ℕ). bit (byte_at s i) j) e

    first : ltb j 8 ≡ true → bit (byte_at s at + (b 1 + b 2 * 2 ^ 8) * 2 ^ 8) j ≡ bit (byte_at s (at + j / 8)) (j % 8)
    first e = let less = ltb-true j 8 e in bits-low 8 (byte_at s at) (b 1 + b 2 * 2 ^ 8) j less ∙ start ∙ said 0 j (omega arith) less

    upper : 8 ≤ j → bit (byte_at s at + (b 1 + b 2 * 2 ^ 8) * 2 ^ 8) j ≡ bit (b 1 + b 2 * 2 ^ 8) (j - 8)
    upper g =
        let e : j ≡ 8 + (j - 8) = omega arith in
        ap (bit (byte_at s at + (b 1 + b 2 * 2 ^ 8) * 2 ^ 8)) e ∙ bits-high 8 (byte_at s at) (b 1 + b 2 * 2 ^ 8) (j - 8) (bytes.each at)

    second : ltb j 8 ≡ false → ltb j 16 ≡ true → bit (byte_at s at + (b 1 + b 2 * 2 ^ 8) * 2 ^ 8) j ≡ bit (byte_at s (at + j / 8)) (j % 8)
    second e f =
        let g = ltb-false j 8 e in
        let less = ltb-true j 16 f in
        upper g ∙ bits-low 8 (b 1) (b 2) (j - 8) (omega arith) ∙ said 1 (j - 8) (omega arith) (omega arith)

    third : ltb j 16 ≡ false → bit (byte_at s at + (b 1 + b 2 * 2 ^ 8) * 2 ^ 8) j ≡ bit (byte_at s (at + j / 8)) (j % 8)
    third f =
        let g = ltb-false j 16 f in
        let e : j - 8 ≡ 8 + (j - 16) = omega arith in
        upper (omega arith)
        ∙ ap (bit (b 1 + b 2 * 2 ^ 8)) e ∙ bits-high 8 (b 1) (b 2) (j - 16) (bytes.each (at + 1)) ∙ said 2 (j - 16) (omega arith) (omega arith)
