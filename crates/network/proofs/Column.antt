-- A column: a list of a fixed length that holds a figure for each of the first m records, and a filler after them. It is how an array that is
-- filled record by record ends.
use Prim.Native.Nat.{ℕ, zero, suc, ◌+◌, ◌≤◌, ◌<◌}
use Rattle.std.specs.Prelude.{◌≡◌, length, get_or, set, replicate}
use Rattle.std.proofs.Math.Path.{refl}
use Rattle.std.proofs.Common.{◌∙◌, eq-or-lt_of_le, arith, get_or-set_same}
use Rattle.std.proofs.Math.Logic.{⊎_elim}
use Rattle.std.proofs.Math.Numerals.{add-one}
use Rattle.std.proofs.Math.ListN.{get_or-replicate, length-set, length-replicate}
use Rattle.std.proofs.Math.Seq.{get_or-set_other}
use Rattle.network.specs.Column.{column}

module _ {A : Type 0} where
  module _ (size : ℕ) (filler : A) (f : ℕ → A) where
    pub column-none : column size filler f 0 ≡ replicate size filler
    unfolding column
    column-none = refl

    -- one record more
    pub column-more : (m : ℕ) → column size filler f (m + 1) ≡ set (column size filler f m) m (f m)
    unfolding column
    column-more m = rw add-one

    pub column-length : (m : ℕ) → length (column size filler f m) ≡ size
    unfolding column
    column-length zero = length-replicate size filler
    column-length (suc m) = length-set (column size filler f m) m (f m) ∙ column-length m

    -- the figure of a record
    pub column-at : (m i : ℕ) → i < m → m ≤ size → (d : A) → get_or (column size filler f m) i d ≡ f i
    unfolding column
    column-at zero i h fits d = absurd (omega arith)
    column-at (suc m) i h fits d =
        ⊎_elim
        (λ (q : i ≡ m). rw q (get_or-set_same (column size filler f m) m (f m) d (rw column-length (omega arith))))
        (λ (q : i < m). get_or-set_other (column size filler f m) m i (f m) d (omega arith) ∙ column-at m i q (omega arith) d)
        (eq-or-lt_of_le (omega arith))

    -- the filler behind the records
    pub column-past : (m i : ℕ) → m ≤ i → i < size → (d : A) → get_or (column size filler f m) i d ≡ filler
    unfolding column
    column-past zero i h room d = get_or-replicate size i filler d room
    column-past (suc m) i h room d = get_or-set_other (column size filler f m) m i (f m) d (omega arith) ∙ column-past m i (omega arith) room d
