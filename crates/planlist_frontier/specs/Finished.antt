-- A list buffer in which the frontier stands behind the place of the head, once it is finished: the list, and zeros.
use Rattle.std.specs.Prelude.{List, ◌++◌, map, ◌≡◌, ℕ, ◌+◌, ◌*◌, ◌-◌, ◌≤◌, ℤ, drop, length, replicate, take}
use Rattle.std.proofs.Common.{append_assoc, ap, ap₂, ◌∙◌, arith, length-append, length-drop, length-take-le}
use Rattle.frontier.specs.Frontier.{Problem}
use Rattle.network.specs.PlanList.{head_bytes, head_size, join, plan_size, plan_slots}
use Rattle.network.specs.declared.Costs.{Costs}
use Rattle.encoding.specs.Blocks.{join-blocks}
use Rattle.planlist_records.specs.Records.{encode, plan_records}
use Rattle.planlist_frontier.specs.Stored.{Holds, holds-count}

-- a buffer of `size` bytes that begins with these and is 0 after them
abbrev pub then_zeros : ℕ → List ℕ → List ℕ
then_zeros size list = list ++ replicate (size - length list) 0

-- the buffer bs, finished: the head, the `count` records behind its place, and zeros
unfoldable pub finished : List ℕ → ℕ → ℕ → ℕ → ℕ → List ℕ
finished bs count solved t p = then_zeros (length bs) (head_bytes count solved t p ++ join (plan_records (plan_slots p) t count (drop head_size bs)))

-- the same by the bytes
pub finished-bytes : (bs : List ℕ) (count solved t p : ℕ) → head_size + count * plan_size (plan_slots p) t ≤ length bs
    → let n = count * plan_size (plan_slots p) t in
    finished bs count solved t p ≡ head_bytes count solved t p ++ (take n (drop head_size bs) ++ replicate (length bs - (head_size + n)) 0)
unfolding finished
finished-bytes bs count solved t p h =
    let n = count * plan_size (plan_slots p) t in
    let head = head_bytes count solved t p in
    let part = take n (drop head_size bs) in
    let long = length-take-le n (drop head_size bs) (rw length-drop (omega arith)) in
    let size : length (head ++ part) ≡ head_size + n = length-append head part ∙ ap (λ (k : ℕ). head_size + k) long in
    ap (λ (l : List ℕ). then_zeros (length bs) (head ++ l)) (join-blocks (plan_size (plan_slots p) t) count (drop head_size bs))
    ∙ ap (λ (k : ℕ). head ++ part ++ replicate (length bs - k) 0) size
    ∙ append_assoc head part (replicate (length bs - (head_size + n)) 0)

-- A buffer that holds the plans l behind the head's place: finished, it is their list.
pub finished-list : {S : Type 0} (P : Problem ℤ S) (costs : S → Costs) (links : S → List ℕ) (pad : List ℤ) (bs : List ℕ) (solved t p : ℕ)
    {count : ℕ} {l : List S} → Holds P (plan_slots p) costs links pad (plan_size (plan_slots p) t) count (drop head_size bs) l
    → finished bs count solved t p ≡ then_zeros (length bs) (head_bytes (length l) solved t p ++ join (map (encode (plan_slots p) costs links) l))
unfolding finished
finished-list P costs links pad bs solved t p {count} {l} h =
    ap₂ (λ (k : ℕ) (rs : List (List ℕ)). then_zeros (length bs) (head_bytes k solved t p ++ join rs))
    (holds-count P (plan_slots p) costs links pad h) h.records-are
