-- Writes one after the other that make a link record, a yard record, the link records of columns, and a survey.
use Rattle.std.specs.Prelude.{Bool, ◌≡◌, ℤ, drop, Option, Some, None, is_some}
use Rattle.std.specs.Option.{unwrap_or}
use Rattle.std.proofs.Math.Bool.{true, false, cond}
use mathlib.Core.List.{List, [], ◌∷◌, ◌++◌, map, append_assoc, append-nil, map-map}
use Rattle.std.proofs.Math.Path.{refl, sym, ap}
use Rattle.std.proofs.Common.{◌∙◌, add-zero, zero-add, add-one}
use Prim.Native.Nat.{ℕ, zero, suc, ◌+◌, ◌*◌, ◌%◌, ◌≤◌}
use native.Mathlib.Omega.{arith}
use Rattle.std.proofs.Math.ListN.{length, length-append}
use Rattle.std.specs.Int.{w16, w32}
use Rattle.order.specs.Lists.{numbers_from}
use Rattle.network.specs.Bytes.{bits_of, little_endian}
use Rattle.network.specs.Limits.{max_links}
use Rattle.network.specs.Survey.{has_count}
use Rattle.network.specs.PlanList.{join}
use Rattle.network.specs.Writing.{Figures, Link, figures_from, link_bytes, link_from, survey_at_front, survey_in, yard_bytes}
use Rattle.network.specs.declared.Layout.{Layout}
use Rattle.network.specs.declared.YardFigures.{YardFigures}
use Rattle.buffers.specs.Overwrite.{overwrite, overwrite-chain, overwrite-nothing}
use Rattle.survey_roundtrip.specs.Layouts.{Writable, written_link, written_yard}
use Rattle.survey_roundtrip.specs.Fields.{length-link, yard-length}
use Rattle.survey_roundtrip.specs.Columns.{Full, map-agree, whole}

-- ---- one record

-- a mark, two bytes, a number of four bytes and two of two
pub link-written : (mark d : List ℕ) (i : ℕ) (x : Link) {o₁ o₂ o₃ o₄ o₅ o₆ : List ℕ} → length mark ≡ 2 → i ≤ length d
    → o₁ ≡ overwrite d i mark → o₂ ≡ overwrite o₁ (i + 2) (x.first ∷ []) → o₃ ≡ overwrite o₂ (i + 2 + 1) (x.second ∷ [])
    → o₄ ≡ overwrite o₃ (i + 4) (little_endian 4 (bits_of w32 x.sum)) → o₅ ≡ overwrite o₄ (i + 8) (little_endian 2 (bits_of w16 x.c1))
    → o₆ ≡ overwrite o₅ (i + 8 + 2) (little_endian 2 (bits_of w16 x.c2))
    → o₆ ≡ overwrite d i (link_bytes mark x)
unfolding link_bytes
link-written [] d i x two fits e₁ e₂ e₃ e₄ e₅ e₆ = absurd (omega arith)
link-written (a ∷ []) d i x two fits e₁ e₂ e₃ e₄ e₅ e₆ = absurd (omega arith)
link-written (a ∷ b ∷ []) d i x two fits e₁ e₂ e₃ e₄ e₅ e₆ =
    let mark : List ℕ = a ∷ b ∷ [] in
    let ends : List ℕ = a ∷ b ∷ x.first ∷ x.second ∷ [] in
    let sum : List ℕ = little_endian 4 (bits_of w32 x.sum) in
    let cost : List ℕ = little_endian 2 (bits_of w16 x.c1) in
    let to3 = overwrite-chain d i mark (i + 2) (x.first ∷ []) e₂ e₁ refl fits in
    let to4 = overwrite-chain d i (mark ++ (x.first ∷ [])) (i + 2 + 1) (x.second ∷ []) e₃ to3 (omega arith) fits in
    let to8 = overwrite-chain d i ends (i + 4) sum e₄ to4 refl fits in
    let to10 = overwrite-chain d i (ends ++ sum) (i + 8) cost e₅ to8 refl fits in
    overwrite-chain d i (ends ++ sum ++ cost) (i + 8 + 2) (little_endian 2 (bits_of w16 x.c2)) e₆ to10 (omega arith) fits
link-written (a ∷ b ∷ c ∷ mark) d i x two fits e₁ e₂ e₃ e₄ e₅ e₆ = absurd (omega arith)

-- the yard record without a link count
abbrev pub field_bytes : List ℕ → YardFigures → List ℕ
field_bytes mark y = mark ++ (y.n ∷ y.p ∷ y.k1 ∷ y.k2 ∷ [])

-- a mark and four bytes
pub fields-written : (mark d : List ℕ) (y : YardFigures) {o₁ o₂ o₃ o₄ o₅ : List ℕ} → length mark ≡ 2
    → o₁ ≡ overwrite d 0 mark → o₂ ≡ overwrite o₁ 2 (y.n ∷ []) → o₃ ≡ overwrite o₂ 3 (y.p ∷ []) → o₄ ≡ overwrite o₃ 4 (y.k1 ∷ [])
    → o₅ ≡ overwrite o₄ 5 (y.k2 ∷ [])
    → o₅ ≡ overwrite d 0 (field_bytes mark y)
fields-written [] d y two e₁ e₂ e₃ e₄ e₅ = absurd (omega arith)
fields-written (a ∷ []) d y two e₁ e₂ e₃ e₄ e₅ = absurd (omega arith)
fields-written (a ∷ b ∷ []) d y two e₁ e₂ e₃ e₄ e₅ =
    let fits : 0 ≤ length d = omega arith in
    let to3 = overwrite-chain d 0 (a ∷ b ∷ []) 2 (y.n ∷ []) e₂ e₁ refl fits in
    let to4 = overwrite-chain d 0 (a ∷ b ∷ y.n ∷ []) 3 (y.p ∷ []) e₃ to3 refl fits in
    let to5 = overwrite-chain d 0 (a ∷ b ∷ y.n ∷ y.p ∷ []) 4 (y.k1 ∷ []) e₄ to4 refl fits in
    overwrite-chain d 0 (a ∷ b ∷ y.n ∷ y.p ∷ y.k1 ∷ []) 5 (y.k2 ∷ []) e₅ to5 refl fits
fields-written (a ∷ b ∷ c ∷ mark) d y two e₁ e₂ e₃ e₄ e₅ = absurd (omega arith)

module _ (l : Layout) (w : Writable l) (y : YardFigures) (m : ℕ) (few : m ≤ max_links) (d : List ℕ) {o : List ℕ}
    (e : o ≡ overwrite d 0 (field_bytes l.yard.mark y)) where
  -- the fields and the link count behind them
  pub yard-counted : (at : ℕ) → l.count ≡ Some at → {o' : List ℕ} → o' ≡ overwrite o at (m ∷ []) → o' ≡ overwrite d 0 (yard_bytes l y m)
  unfolding yard_bytes
  yard-counted at h q =
      let has : has_count l ≡ true = ap is_some h in
      let place : at ≡ written_yard = ap (λ (o : Option ℕ). unwrap_or o 0) (sym h) ∙ w.counted ∙ ap (λ (b : Bool). cond b written_yard 0) has in
      let size = length-append l.yard.mark (y.n ∷ y.p ∷ y.k1 ∷ y.k2 ∷ []) in
      let byte : m ≡ m % 256 = omega arith in
      let fields : List ℕ = y.n ∷ y.p ∷ y.k1 ∷ y.k2 ∷ [] in
      overwrite-chain d 0 (field_bytes l.yard.mark y) at (m ∷ []) q e (omega (arith, w.marked)) (omega arith)
      ∙ ap (overwrite d 0)
      (append_assoc l.yard.mark fields (m ∷ [])
      ∙ ap (λ (r : List ℕ). l.yard.mark ++ (fields ++ r)) (ap (λ (x : ℕ). x ∷ []) byte ∙ ap (λ (b : Bool). cond b (little_endian 1 m) []) (sym has)))

  -- the fields alone, where there is none
  pub yard-uncounted : l.count ≡ None → o ≡ overwrite d 0 (yard_bytes l y m)
  unfolding yard_bytes
  yard-uncounted h =
      let has : has_count l ≡ false = ap is_some h in
      e ∙ ap (λ (b : Bool). overwrite d 0 (l.yard.mark ++ (y.n ∷ y.p ∷ y.k1 ∷ y.k2 ∷ cond b (little_endian 1 m) []))) (sym has)

-- ---- all link records

-- one record more at the end
join_more : (g : ℕ → List ℕ) (n k : ℕ) → join (map g (numbers_from (suc n) k)) ≡ join (map g (numbers_from n k)) ++ g (k + n)
unfolding numbers_from
join_more g zero k = append-nil (g k) ∙ ap g (sym (add-zero k))
join_more g (suc n) k =
    let step : suc k + n ≡ k + suc n = omega arith in
    ap (λ (r : List ℕ). g k ++ r) (join_more g n (suc k) ∙ ap (λ (j : ℕ). join (map g (numbers_from n (suc k))) ++ g j) step)
    ∙ sym (append_assoc (g k) (join (map g (numbers_from n (suc k)))) (g (k + suc n)))

module _ (mark : List ℕ) (ends : List ℕ) (sums costs : List ℤ) where
  -- the bytes of link i, which is the same for any number of ceilings where it lacks no cost
  abbrev bytes_of : ℕ → List ℕ
  bytes_of i = link_bytes mark (link_from 0 ends sums costs i)

  -- the records of the first i links
  unfoldable pub records_to : ℕ → List ℕ
  records_to i = join (map bytes_of (numbers_from i 0))

  records-length : length mark ≡ 2 → (i : ℕ) → length (records_to i) ≡ i * written_link
  unfolding records_to numbers_from
  records-length two zero = refl
  records-length two (suc i) =
      let last = length-append (records_to i) (bytes_of (0 + i)) in
      let size = length-link mark (link_from 0 ends sums costs (0 + i)) two in
      let ih = records-length two i in
      ap length (join_more bytes_of i 0) ∙ omega arith

  -- a record written behind the first i
  pub records-turn : length mark ≡ 2 → (d : List ℕ) (first at i : ℕ) {o o' : List ℕ} → first ≤ length d → at ≡ first + i * written_link
      → o ≡ overwrite d first (records_to i) → o' ≡ overwrite o at (bytes_of i) → o' ≡ overwrite d first (records_to (i + 1))
  unfolding records_to
  records-turn two d first at i room behind so_far e =
      let size = records-length two i in
      overwrite-chain d first (records_to i) at (bytes_of i) e so_far (omega arith) room
      ∙ ap (overwrite d first) (sym (ap records_to (add-one i) ∙ join_more bytes_of i 0 ∙ ap (λ (j : ℕ). records_to i ++ bytes_of j) (zero-add i)))

  -- nothing written yet
  pub records-none : (d : List ℕ) (first : ℕ) → d ≡ overwrite d first (records_to 0)
  unfolding records_to numbers_from
  records-none d first = overwrite-nothing d first

  -- all records of full columns are those of the figures
  pub records-all : Full ends sums costs → (y : YardFigures) → records_to (length sums) ≡ join (map (link_bytes mark) (figures_from y ends sums costs).links)
  unfolding records_to figures_from
  records-all full y =
      ap join
      (map-agree bytes_of (λ i. link_bytes mark (link_from y.p ends sums costs i)) (length sums) 0 (λ i h.
      ap (link_bytes mark) (sym (whole y ends sums costs full i (omega arith))))
      ∙ sym (map-map (link_bytes mark) (link_from y.p ends sums costs) (numbers_from (length sums) 0)))

-- ---- the survey

-- the yard record and then the link records of figures are their survey, in front of what stood past it
pub survey-made : (l : Layout) → Writable l → (f : Figures) (d : List ℕ) {o o' : List ℕ} → o ≡ overwrite d 0 (yard_bytes l f.yard (length f.links))
    → o' ≡ overwrite o l.yard.size (join (map (link_bytes l.link.mark) f.links)) → o' ≡ survey_at_front (survey_in l f) d
unfolding survey_in survey_at_front overwrite
survey-made l w f d e q =
    let yard = yard_bytes l f.yard (length f.links) in
    let behind : l.yard.size ≡ 0 + length yard = sym (zero-add (length yard) ∙ yard-length l w f.yard (length f.links)) in
    overwrite-chain d 0 yard l.yard.size (join (map (link_bytes l.link.mark) f.links)) q e behind (omega arith)
    ∙ ap (λ (k : ℕ). survey_in l f ++ drop k d) (zero-add (length (survey_in l f)))
