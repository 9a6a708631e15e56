-- Plan records, alone and one after the other.
use Rattle.std.specs.Prelude.{◌≡◌, refl, Bool, true, false, cond, List, [], ◌∷◌, ◌++◌, ℕ, ◌+◌, ◌*◌, ◌≤◌, leb, ℤ, length, take}
use Rattle.std.proofs.Common.{ap, ◌∙◌, append_assoc, mul_comm, arith, length-append, length-take-le}
use Rattle.std.specs.Int.{w16, w32}
use Rattle.network.specs.Bytes.{bits_of, little_endian}
use Rattle.network.specs.PlanList.{ceiling_bytes, plan_bytes, plan_mark, plan_size}
use Rattle.network.specs.Survey.{narrow_slots}
use Rattle.network.specs.declared.Costs.{Costs}
use Rattle.buffers.specs.Overwrite.{overwrite, overwrite-chain}
use Rattle.encoding.specs.Blocks.{blocks}
use Rattle.encoding.specs.Fields.{fields-length}

-- a ceiling cost as bytes
abbrev pub cost_bytes : ℤ → List ℕ
cost_bytes y = little_endian 2 (bits_of w16 y)

-- the record of a solution with these costs and links, which has room for so many ceiling costs
abbrev pub encode : {S : Type 0} → ℕ → (S → Costs) → (S → List ℕ) → S → List ℕ
encode slots costs links s = plan_bytes slots (costs s) (links s)

-- a mark has two bytes
pub length-mark : (slots : ℕ) → length (plan_mark slots) ≡ 2
unfolding plan_mark
length-mark slots = go (leb slots narrow_slots)
  where
    go : (b : Bool) → length (cond {A = List ℕ} b (0x50 ∷ 0x4C ∷ []) (0x50 ∷ 0x4D ∷ [])) ≡ 2
    go true = refl
    go false = refl

-- ceiling costs have two bytes each
pub length-ceilings : (ys : List ℤ) → length (ceiling_bytes ys) ≡ 2 * length ys
unfolding ceiling_bytes
length-ceilings ys = fields-length cost_bytes 2 (λ y. refl) ys ∙ mul_comm (length ys) 2

-- how long a record is
pub length-plan : (slots : ℕ) (v : Costs) (links : List ℕ) → slots ≤ length v.y → length (plan_bytes slots v links) ≡ plan_size slots (length links)
length-plan slots v links h =
    let front = length-take-le slots v.y h in
    let costs = length-ceilings (take slots v.y) in
    length-append (plan_mark slots) _ ∙ omega (arith, length-mark slots, length-append (ceiling_bytes (take slots v.y)) links)

-- the first n plan records of t links
abbrev pub plan_records : ℕ → ℕ → ℕ → List ℕ → List (List ℕ)
plan_records slots t n bs = blocks (plan_size slots t) n bs

-- its parts written one after the other: mark, sum, ceiling costs, links
pub record-written : (slots : ℕ) (v : Costs) (links d : List ℕ) (i : ℕ) → i + plan_size slots (length links) ≤ length d → slots ≤ length v.y
    → {o1 o2 o3 o4 : List ℕ} → o1 ≡ overwrite d i (plan_mark slots) → o2 ≡ overwrite o1 (i + 2) (little_endian 4 (bits_of w32 v.sum))
    → o3 ≡ overwrite o2 (i + 6) (ceiling_bytes (take slots v.y)) → o4 ≡ overwrite o3 (i + 6 + 2 * slots) links
    → o4 ≡ overwrite d i (plan_bytes slots v links)
record-written slots v links d i room enough e1 e2 e3 e4 =
    let mark = plan_mark slots in
    let sum = little_endian 4 (bits_of w32 v.sum) in
    let ys = ceiling_bytes (take slots v.y) in
    let two = length-mark slots in
    let six : length (mark ++ sum) ≡ 6 = length-append mark sum ∙ omega arith in
    let costs : length ys ≡ 2 * slots = length-ceilings (take slots v.y) ∙ ap (λ (k : ℕ). 2 * k) (length-take-le slots v.y enough) in
    let all = length-append (mark ++ sum) ys in
    let fits : i ≤ length d = omega arith in
    let f2 = overwrite-chain d i mark (i + 2) sum e2 e1 (omega arith) fits in
    let f3 = overwrite-chain d i (mark ++ sum) (i + 6) ys e3 f2 (omega arith) fits in
    overwrite-chain d i ((mark ++ sum) ++ ys) (i + 6 + 2 * slots) links e4 f3 (omega arith) fits
    ∙ ap (overwrite d i) (append_assoc (mark ++ sum) ys links ∙ append_assoc mark sum (ys ++ links))
