-- The choices of a link: by their digits, in their order, and that they are all links of the kind.
use Rattle.std.specs.Prelude.{Bool, true, false, ◌&&◌, List, [], ◌∷◌, ◌++◌, ◌≡◌, refl, ℕ, zero, suc, ◌+◌, ◌/◌, ◌%◌, ◌≤◌, ◌<◌, ltb, ℤ, pos, negsuc, get_or, length}
use mathlib.Core.List.Memᴰ
use Rattle.std.proofs.Common.{⊎_elim, inl, inr, sym, ap, ap₂, ◌∙◌, zero-add, arith, ltb-true, length-append}
use Rattle.std.proofs.lemmas.List.{length-map}
use Rattle.order.specs.Lists.{◌∈◌, all, numbers_from}
use Rattle.order.proofs.Lists.{all-mem, get_or_map, map-mem}
use Rattle.order.specs.Sorted.{Rising}
use Rattle.order.proofs.Sorted.{mem-numbers, number_at, is_rising→rising}
use Rattle.order.specs.Test.{clash, left}
use Rattle.order.proofs.Test.{right}
use Rattle.frontier.specs.Frontier.{Picks, picks-cons, picks-nil, positions}
use Rattle.frontier.proofs.Walk.{positions-length, positions-mem}
use Rattle.frontier.proofs.Ordered.{positions-pick}
use Rattle.buffers.specs.Overwrite.{overwrite, overwrite-chain}
use Rattle.network.specs.Bytes.{bits_of, little_endian}
use Rattle.network.specs.Survey.{plain}
use Rattle.network.specs.Writing.{Link, link_bytes, no_link}
use Rattle.network.specs.SmallSurveys.{choice_count, choice_parts, choices, small_ends, small_link}
use Rattle.network.specs.SmallPromise.{LinkOfSmallKind, ZeroOrOne, choice_of, choice_order}

-- ---- by digits

pub choices-length : length choices ≡ choice_count
unfolding choices numbers_from
choices-length = length-map (positions choice_parts) small_link ∙ positions-length choice_parts

digit : (n i : ℕ) → i < n → get_or (numbers_from n 0) i 0 ≡ i
digit n i h = number_at n 0 i h ∙ zero-add i

-- choice d: the place of its ends, its s and its c1 are the digits of d
choice-at : (d : ℕ) → d < choice_count → get_or choices d no_link ≡ small_link (d / 4 ∷ d % 4 / 2 ∷ d % 2 ∷ [])
unfolding choices numbers_from
choice-at d h =
    let bit : d % 4 % 2 / 1 ≡ d % 2 = omega arith in
    let last : get_or (numbers_from 2 0) (d % 4 % 2 / 1) 0 ≡ d % 2 = digit 2 (d % 4 % 2 / 1) (omega arith) ∙ bit in
    get_or_map small_link (positions choice_parts) d [] no_link (rw (positions-length choice_parts) h)
    ∙ ap small_link (positions-pick 0 choice_parts d h)
    ∙ (λ k. small_link (digit 3 (d / 4) (omega arith) k ∷ digit 2 (d % 4 / 2) (omega arith) k ∷ last k ∷ []))

-- ---- in their order

pub choices-rise : Rising choice_order choice_of choices
unfolding choices numbers_from
choices-rise = is_rising→rising choice_order choice_of choices refl

-- ---- of the kind

-- a cost is 0 or 1, as a test
abbrev is_zero_or_one : ℤ → Bool
is_zero_or_one (pos c) = ltb c 2
is_zero_or_one (negsuc c) = false

zero-or-one : (c : ℤ) → is_zero_or_one c ≡ true → ZeroOrOne c
zero-or-one (pos zero) e = inl refl
zero-or-one (pos (suc zero)) e = inr refl
zero-or-one (pos (suc (suc c))) e = let h = ltb-true (suc (suc c)) 2 e in absurd (omega arith)
zero-or-one (negsuc c) e = clash e refl

-- a link of the kind, as a test
abbrev is_small : Link → Bool
is_small x = ltb x.first x.second && (is_zero_or_one x.sum && is_zero_or_one x.c1)

all_small : all is_small choices ≡ true
unfolding choices numbers_from
all_small = refl

-- each choice is a link of the kind
pub choice-small : (x : Link) → x ∈ choices → LinkOfSmallKind x
choice-small x m =
    let e = all-mem is_small choices all_small x m in
    let costs = right (ltb x.first x.second) _ e in
    record {
      ends = ltb-true _ _ (left (ltb x.first x.second) _ e);
      sum = zero-or-one _ (left (is_zero_or_one x.sum) _ costs);
      c1 = zero-or-one _ (right (is_zero_or_one x.sum) _ costs);
    }

-- with c2 of 0
pub choice-absent : (x : Link) → x ∈ choices → x.c2 ≡ pos 0
unfolding choices
choice-absent x m = ap (λ (y : Link). y.c2) (map-mem small_link (positions choice_parts) x m).2

-- ---- all of the kind

-- the place of two rising ends among those of a link
ends-place : (a b : ℕ) → a < b → b < 3 → (i : ℕ) × (i < 3) × (get_or small_ends i (0, 0) ≡ (a, b))
ends-place zero (suc zero) h k = (0, omega arith, refl)
ends-place zero (suc (suc zero)) h k = (1, omega arith, refl)
ends-place (suc zero) (suc (suc zero)) h k = (2, omega arith, refl)
ends-place a zero h k = absurd (omega arith)
ends-place a (suc (suc (suc b))) h k = absurd (omega arith)
ends-place (suc a) (suc zero) h k = absurd (omega arith)
ends-place (suc (suc a)) (suc (suc zero)) h k = absurd (omega arith)

-- the number of a cost of 0 or 1
cost-place : (c : ℤ) → ZeroOrOne c → (i : ℕ) × (i < 2) × (pos i ≡ c)
cost-place c z = ⊎_elim {C = (i : ℕ) × (i < 2) × (pos i ≡ c)} (λ e. (0, omega arith, sym e)) (λ e. (1, omega arith, sym e)) z

-- each link of the kind among three stations, with c2 of 0, is a choice
pub small-choice : (x : Link) → LinkOfSmallKind x → x.second < 3 → x.c2 ≡ pos 0 → x ∈ choices
unfolding choices
small-choice x small h absent =
    let ends = ends-place x.first x.second small.ends h in
    let sum = cost-place x.sum small.sum in
    let c1 = cost-place x.c1 small.c1 in
    let among : Picks (ends.0 ∷ sum.0 ∷ c1.0 ∷ []) choice_parts =
    picks-cons (mem-numbers 3 0 ends.0 (omega arith) (omega (arith, ends.1)))
    (picks-cons (mem-numbers 2 0 sum.0 (omega arith) (omega (arith, sum.1)))
    (picks-cons (mem-numbers 2 0 c1.0 (omega arith) (omega (arith, c1.1))) picks-nil)) in
    let same : small_link (ends.0 ∷ sum.0 ∷ c1.0 ∷ []) ≡ x =
    λ k. record { first = (ends.2 k).0; second = (ends.2 k).1; sum = sum.2 k; c1 = c1.2 k; c2 = sym absent k } in
    Memᴰ.cast (sym same) (Memᴰ.map small_link (positions-mem among))

-- ---- written

-- how a link record opens, with its mark and its ends, in the order of the ends
abbrev pub openings : List (List ℕ)
openings = (0x4C ∷ 0x4B ∷ 0 ∷ 1 ∷ []) ∷ (0x4C ∷ 0x4B ∷ 0 ∷ 2 ∷ []) ∷ (0x4C ∷ 0x4B ∷ 1 ∷ 2 ∷ []) ∷ []

-- c1 of 0 or 1 and c2 of 0, as one number
both-costs : (c : ℕ) → c < 2 → little_endian 2 c ++ little_endian 2 0 ≡ little_endian 4 c
both-costs zero h = refl
both-costs (suc zero) h = refl
both-costs (suc (suc c)) h = absurd (omega arith)

-- the mark and the ends
opened : (e : ℕ) → e < 3 → plain.link.mark ++ ((get_or small_ends e (0, 0)).0 ∷ (get_or small_ends e (0, 0)).1 ∷ []) ≡ get_or openings e []
opened zero h = refl
opened (suc zero) h = refl
opened (suc (suc zero)) h = refl
opened (suc (suc (suc e))) h = absurd (omega arith)

-- the record of a link of three parts: how it opens, then s, then its costs
link-parts : (e s c : ℕ) → e < 3 → c < 2
    → link_bytes plain.link.mark (small_link (e ∷ s ∷ c ∷ [])) ≡ get_or openings e [] ++ little_endian 4 s ++ little_endian 4 c
unfolding link_bytes bits_of
link-parts e s c h g = ap₂ (λ (a b : List ℕ). a ++ little_endian 4 s ++ b) (opened e h) (both-costs c g)

opening-length : (e : ℕ) → e < 3 → length (get_or openings e []) ≡ 4
opening-length e h = ap length (sym (opened e h))

-- these written one after the other are the record of the choice
pub choice-written : (d : List ℕ) (at choice : ℕ) (opening : List ℕ) {o₁ o₂ o₃ : List ℕ} → choice < choice_count → opening ≡ get_or openings (choice / 4) []
    → at ≤ length d → o₁ ≡ overwrite d at opening → o₂ ≡ overwrite o₁ (at + 4) (little_endian 4 (choice % 4 / 2))
    → o₃ ≡ overwrite o₂ (at + 8) (little_endian 4 (choice % 2)) → o₃ ≡ overwrite d at (link_bytes plain.link.mark (get_or choices choice no_link))
choice-written d at choice opening h e room e₁ e₂ e₃ =
    let below : choice / 4 < 3 = omega arith in
    let four : length opening ≡ 4 = ap length e ∙ opening-length (choice / 4) below in
    let sum : List ℕ = little_endian 4 (choice % 4 / 2) in
    let to8 = overwrite-chain d at opening (at + 4) sum e₂ e₁ (omega arith) room in
    let eight = length-append opening sum in
    overwrite-chain d at (opening ++ sum) (at + 8) (little_endian 4 (choice % 2)) e₃ to8 (omega arith) room
    ∙ ap (λ (b : List ℕ). overwrite d at (b ++ sum ++ little_endian 4 (choice % 2))) e
    ∙ ap (overwrite d at) (sym (link-parts (choice / 4) (choice % 4 / 2) (choice % 2) below (omega arith)))
    ∙ ap (λ (x : Link). overwrite d at (link_bytes plain.link.mark x)) (sym (choice-at choice h))
