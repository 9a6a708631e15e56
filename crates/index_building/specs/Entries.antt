-- Numbers written at a buffer's front, two bytes each.
use Rattle.std.specs.Prelude.{List, ◌++◌, ◌≡◌, refl, ℕ, ◌+◌, ◌-◌, ◌*◌, ◌/◌, ◌≤◌, ◌<◌, drop, get_or, length}
use Rattle.std.proofs.Common.{sym, ap, ◌∙◌, arith, zero-add}
use Rattle.network.specs.Bytes.{little_endian}
use Rattle.order.specs.Columns.{tabled}
use Rattle.order.proofs.Columns.{tabled-at, tabled-length}
use Rattle.buffers.specs.Overwrite.{overwrite}
use Rattle.encoding.specs.Fields.{Written, field_bytes, fields-length, written-end, written_start, written-turn}

-- columns that hold so many plans, and spare ones that hold half of them
pub record Held (most half : ℕ) (keys : List ℕ) : Type 0 where
  pub room : length keys ≤ most
  pub spare : length keys / 2 ≤ half
  pub few : most ≤ 65536
  pub less : half ≤ 65536

-- the bytes of numbers, two each
abbrev pub entry_bytes : List ℕ → List ℕ
entry_bytes ns = field_bytes (little_endian 2) ns

pub entry_length : (ns : List ℕ) → length (entry_bytes ns) ≡ length ns * 2
entry_length = fields-length (little_endian 2) 2 (λ n. refl)

-- a buffer with numbers at its front; its other bytes are as they were
unfoldable pub entries_in : List ℕ → List ℕ → List ℕ
entries_in ns buffer = entry_bytes ns ++ drop (length ns * 2) buffer

-- all numbers are written
pub entries-written : (ns before after : List ℕ) (r : ℕ) → Written (little_endian 2) ns 0 before after r → length ns ≤ r → after ≡ entries_in ns before
unfolding overwrite entries_in
entries-written ns before after r w h =
    written-end (little_endian 2) ns 0 before after r w h
    ∙ ap (λ (k : ℕ). entry_bytes ns ++ drop k before) (zero-add (length (entry_bytes ns)) ∙ entry_length ns)

-- ---- what is written entry by entry

-- the numbers below a count, down to 0
unfoldable pub downwards : ℕ → List ℕ
downwards n = tabled (λ r. n - 1 - r) n

pub downwards-length : (n : ℕ) → length (downwards n) ≡ n
unfolding downwards
downwards-length n = tabled-length (λ r. n - 1 - r) n

pub downwards-at : (n r : ℕ) → r < n → get_or (downwards n) r 0 ≡ n - 1 - r
unfolding downwards
downwards-at n r h = tabled-at (λ x. n - 1 - x) n r h

-- none is written yet
pub entries-start : (ns before : List ℕ) → Written (little_endian 2) ns 0 before before 0
entries-start ns before = written_start (little_endian 2) ns 0 before

-- a turn that writes entry r
pub entries-turn : (ns before now : List ℕ) (r x : ℕ) {after : List ℕ} → Written (little_endian 2) ns 0 before now r → r < length ns → get_or ns r 0 ≡ x
    → after ≡ overwrite now (r * 2) (little_endian 2 x) → Written (little_endian 2) ns 0 before after (r + 1)
entries-turn ns before now r x {after} w h e q =
    written-turn (little_endian 2) 2 (λ n. refl) ns 0 before now r 0 w h (omega arith) (sym (zero-add (r * 2)))
    (q ∙ ap (λ (y : ℕ). overwrite now (r * 2) (little_endian 2 y)) (sym e))
