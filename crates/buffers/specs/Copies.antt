-- Loops that copy and move: what a turn does.
use Rattle.std.specs.Prelude.{◌≡◌, List, [], ◌∷◌, ◌++◌, ℕ, zero, suc, ◌+◌, ◌-◌, ◌≤◌, ◌<◌, length, take, drop, get_or, set}
use Rattle.std.proofs.Common.{sym, ap, ap₂, ◌∙◌, append_assoc, arith, add-zero, add-one, length-drop, length-take-le, drop_at, drop-cons, get_or-take, get_or-drop}
use Rattle.std.proofs.Math.Nat.{sub-zero}
use Rattle.std.proofs.Math.Seq.{paste, paste-zero, paste-suc, take-length}
use Rattle.std.proofs.lemmas.List.{set_split}
use Rattle.buffers.specs.Overwrite.{overwrite, length-overwrite, take-overwrite, drop-overwrite, paste-overwrite}

-- the copy of a whole list
pub paste_all : {A : Type 0} (d : List A) (i : ℕ) (s : List A) (n : ℕ) → n ≡ length s → paste d i s n ≡ overwrite d i s
unfolding overwrite
paste_all {A} d i s n e = ap (paste d i s) e ∙ ap (λ (l : List A). take i d ++ l ++ drop (i + length s) d) (take-length s)

-- a turn that copies element j of s
pub paste-turn : {A : Type 0} (d : List A) (i : ℕ) (s : List A) (j : ℕ) (z : A) {out : List A} {x : A} → out ≡ paste d i s j → i + j < length d → j < length s
    → x ≡ get_or s j z → set out (i + j) x ≡ paste d i s (j + 1)
paste-turn {A} d i s j z {out} {x} e h k v =
    ap₂ (λ (l : List A) (y : A). set l (i + j) y) e v ∙ paste-suc d i s j z h k ∙ ap (paste d i s) (sym (add-one j))

-- lists that agree from index k on have the same entry there
get_or-behind : (a b : List ℕ) (k : ℕ) → drop k a ≡ drop k b → get_or a k 0 ≡ get_or b k 0
get_or-behind a b k e =
    ap (λ (n : ℕ). get_or a n 0) (sym (add-zero k))
    ∙ sym (get_or-drop k a 0 0)
    ∙ ap (λ (l : List ℕ). get_or l 0 0) e
    ∙ get_or-drop k b 0 0
    ∙ ap (λ (n : ℕ). get_or b n 0) (add-zero k)

-- lists that agree up to index k have the same entries before it
get_or-before : (a b : List ℕ) (k i : ℕ) → i < k → take k a ≡ take k b → get_or a i 0 ≡ get_or b i 0
get_or-before a b k i h e = sym (get_or-take k a i 0 h) ∙ ap (λ (l : List ℕ). get_or l i 0) e ∙ get_or-take k b i 0 h

-- a move downwards reads a byte that it has not written yet
pub down-reads : (d : List ℕ) (from to j : ℕ) {out : List ℕ} → out ≡ paste d to (drop from d) j → to ≤ from → from + j < length d → j ≤ length (drop from d)
    → get_or out (from + j) 0 ≡ get_or (drop from d) j 0
down-reads d from to j {out} e h k l =
    let len : length (take j (drop from d)) ≡ j = length-take-le j (drop from d) l in
    ap (λ (o : List ℕ). get_or o (from + j) 0) (e ∙ paste-overwrite d to (drop from d) j l)
    ∙ get_or-behind (overwrite d to (take j (drop from d))) d (from + j) (drop-overwrite d to (take j (drop from d)) (from + j) (omega arith) (omega arith))
    ∙ sym (get_or-drop from d j 0)

-- one byte in front of those that were written
set-overwrite : (d : List ℕ) (i : ℕ) (s : List ℕ) (x : ℕ) → i + suc (length s) ≤ length d → set (overwrite d (suc i) s) i x ≡ overwrite d i (x ∷ s)
unfolding overwrite
set-overwrite d i s x h =
    let o : List ℕ = overwrite d (suc i) s in
    let rest : List ℕ = drop (suc i + length s) d in
    let whole = length-overwrite d (suc i) s (omega arith) in
    let e : suc i + length s ≡ i + suc (length s) = omega arith in
    set_split o i x (omega arith)
    ∙ ap₂ (λ (l r : List ℕ). l ++ x ∷ r) (take-overwrite d (suc i) s i (omega arith) (omega arith))
    (ap (drop (suc i)) (append_assoc (take (suc i) d) s rest) ∙ drop_at (take (suc i) d) (s ++ rest) (suc i) (length-take-le (suc i) d (omega arith)))
    ∙ sym (append_assoc (take i d) (x ∷ s) rest)
    ∙ ap (λ (k : ℕ). take i d ++ (x ∷ s) ++ drop k d) e

-- a move upwards, of which the j lowest bytes are still to do
abbrev pub moved : List ℕ → ℕ → ℕ → ℕ → ℕ → List ℕ
moved d from to n j = overwrite d (to + j) (take (n - j) (drop (from + j) d))

-- a turn of it
up-turn-at : (d : List ℕ) (from to n k : ℕ) → from ≤ to → to + n ≤ length d → k < n
    → set (moved d from to n (suc k)) (to + k) (get_or (moved d from to n (suc k)) (from + k) 0) ≡ moved d from to n k
up-turn-at d from to n k h g l =
    let s : List ℕ = take (n - suc k) (drop (from + suc k) d) in
    let size = length-drop (from + suc k) d in
    let ls : length s ≡ n - suc k = length-take-le (n - suc k) (drop (from + suc k) d) (omega arith) in
    let e : to + suc k ≡ suc (to + k) = omega arith in
    let f : from + suc k ≡ suc (from + k) = omega arith in
    let m : n - k ≡ suc (n - suc k) = omega arith in
    let reads : get_or (overwrite d (to + suc k) s) (from + k) 0 ≡ get_or d (from + k) 0 =
    get_or-before (overwrite d (to + suc k) s) d (to + suc k) (from + k) (omega arith)
    (take-overwrite d (to + suc k) s (to + suc k) (omega arith) (omega arith)) in
    let part : get_or d (from + k) 0 ∷ s ≡ take (n - k) (drop (from + k) d) =
    ap (λ (j : ℕ). get_or d (from + k) 0 ∷ take (n - suc k) (drop j d)) f
    ∙ sym (ap (λ (l : List ℕ). take (suc (n - suc k)) l) (drop-cons d (from + k) 0 (omega arith)))
    ∙ ap (λ (j : ℕ). take j (drop (from + k) d)) (sym m) in
    ap (set (overwrite d (to + suc k) s) (to + k)) reads
    ∙ ap (λ (i : ℕ). set (overwrite d i s) (to + k) (get_or d (from + k) 0)) e
    ∙ set-overwrite d (to + k) s (get_or d (from + k) 0) (omega arith)
    ∙ ap (overwrite d (to + k)) part

-- the same from a buffer that is known by an equation, with j bytes still to do
pub up_turn : (d : List ℕ) (from to n j : ℕ) {out : List ℕ} → out ≡ moved d from to n j → from ≤ to → to + n ≤ length d → 0 < j → j ≤ n
    → set out (to + (j - 1)) (get_or out (from + (j - 1)) 0) ≡ moved d from to n (j - 1)
up_turn d from to n zero e h g p l = absurd (omega arith)
up_turn d from to n (suc k) {out} e h g p l =
    let one : suc k - 1 ≡ k = omega arith in
    rw (one, e) (up-turn-at d from to n k h g l)

-- nothing is moved yet
pub up_none : (d : List ℕ) (from to n : ℕ) → d ≡ moved d from to n n
unfolding overwrite
up_none d from to n =
    let e : n - n ≡ 0 = omega arith in
    rw e (paste-zero d (to + n) [])

-- all is moved
pub up-all : (d : List ℕ) (from to n j : ℕ) → j ≡ 0 → moved d from to n j ≡ overwrite d to (take n (drop from d))
up-all d from to n j e = rw (e, add-zero to, add-zero from, sub-zero n)
