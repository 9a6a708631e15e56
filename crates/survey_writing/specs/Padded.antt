-- A column made full.
use Rattle.std.specs.Prelude.{ℕ, suc, ◌+◌, ◌-◌, ◌≡◌, ◌<◌, List, ◌++◌, min, take, drop, get_or, length, replicate}
use Rattle.std.proofs.Common.{ap, sym, ◌∙◌, arith, ext_get_or, get_or-drop, get_or-take, length-append, length-drop, length-take-le}
use Rattle.std.proofs.Math.ListN.{get_or-append, get_or-eq_default, get_or-replicate, length-replicate}
use Rattle.std.proofs.lemmas.List.{get_or-append-add}
use Rattle.std.proofs.Math.Decide.{dec_le}
use Rattle.network.specs.Column.{column}
use Rattle.network.proofs.Column.{column-at, column-length}

-- the first entries of a column, and the same one after them
pub padded : {A : Type 0} (n : ℕ) (missing : A) (given : List A) (count : ℕ) (front : List A) → count ≡ min (length given) n → front ≡ take count given
    → front ++ drop count (replicate n missing) ≡ column n missing (λ k. get_or given k missing) n
padded {A} n missing given count front e q =
    let size : length front ≡ count = ap length q ∙ length-take-le count given (omega arith) in
    let behind : length (drop count (replicate n missing)) ≡ n - count = length-drop count (replicate n missing) ∙ omega (arith, length-replicate n missing) in
    ext_get_or missing (front ++ drop count (replicate n missing)) (column n missing (λ k. get_or given k missing) n)
    (length-append front (drop count (replicate n missing)) ∙ omega (arith, column-length n missing (λ k. get_or given k missing) n))
    (λ i h.
    let inside : i < n = omega (arith, length-append front (drop count (replicate n missing))) in
    go i inside (dec_le (suc i) count) ∙ sym (column-at n missing (λ k. get_or given k missing) n i inside (omega arith) missing))
  where
    go : (i : ℕ) → i < n → Dec (i < count) → get_or (front ++ drop count (replicate n missing)) i missing ≡ get_or given i missing
    go i inside (yes h) =
        let size : length front ≡ count = ap length q ∙ length-take-le count given (omega arith) in
        get_or-append front (drop count (replicate n missing)) missing i (omega arith) ∙ ap (λ (xs : List A). get_or xs i missing) q ∙ get_or-take count given i missing h
    go i inside (no h) =
        let size : length front ≡ count = ap length q ∙ length-take-le count given (omega arith) in
        let place : length front + (i - count) ≡ i = omega arith in
        let past : get_or (front ++ drop count (replicate n missing)) i missing ≡ get_or (drop count (replicate n missing)) (i - count) missing =
        ap (λ (k : ℕ). get_or (front ++ drop count (replicate n missing)) k missing) (sym place)
        ∙ get_or-append-add front (drop count (replicate n missing)) (i - count) missing in
        let back : count + (i - count) ≡ i = omega arith in
        past
        ∙ get_or-drop count (replicate n missing) (i - count) missing
        ∙ ap (λ (k : ℕ). get_or (replicate n missing) k missing) back
        ∙ get_or-replicate n i missing missing inside
        ∙ sym (get_or-eq_default given missing (omega arith))
