-- A survey that was read and is written in its own layout has its former bytes.
use Rattle.std.specs.Prelude.{Bool, true, false, ◌≡◌, eqb, drop}
use Rattle.std.proofs.Math.Bool.{cond}
use mathlib.Core.List.{List, [], ◌∷◌, ◌++◌, map}
use Rattle.std.proofs.Math.Path.{refl, sym, ap, ap₂}
use Rattle.std.proofs.Common.{◌∙◌, zero-add, drop-drop, get_or-drop, take-add}
use Prim.Native.Nat.{ℕ, zero, suc, ◌+◌, ◌*◌, ◌%◌, ◌≤◌}
use Rattle.std.proofs.Math.Nat.{suc-mul, zero-mul}
use native.Mathlib.Omega.{arith}
use Rattle.std.proofs.Math.ListN.{get_or, length, length-drop, length-map, take, take-append-drop}
use Rattle.std.proofs.Math.Seq.{take_all}
use borrow.Author.Tests.{eqb-true, not-false}
use Rattle.std.specs.Int.{w16, w32}
use Rattle.order.specs.Lists.{numbers_from}
use Rattle.order.proofs.Sorted.{numbers-length}
use Rattle.order.specs.Test.{by-test, left}
use Rattle.order.proofs.Test.{right}
use Rattle.network.specs.Bytes.{byte_at, little_endian, mark_at, signed}
use Rattle.network.specs.Survey.{count_at, count_in, has_count, layout_of, link_count, link_start}
use Rattle.network.specs.PlanList.{join}
use Rattle.network.specs.Moved.{Moved}
use Rattle.network.proofs.Moved.{moved-mark, moved_on, moved-u16, moved-u32}
use Rattle.network.specs.Refusals.{bad_count}
use Rattle.network.specs.Accepted.{RecordsFine}
use Rattle.network.proofs.Accepted.{accepted-records, inside}
use Rattle.network.specs.Writing.{Figures, figures_in, layout_for, link_bytes, link_in, survey_in, survey_of, unknown_kind, yard_bytes}
use Rattle.network.specs.WritingPromise.{OfBytes, Says}
use Rattle.network.specs.declared.Layout.{Layout}
use Rattle.encoding.specs.SignedRoundTrip.{bytes-i16, bytes-i32}
use Rattle.survey_roundtrip.specs.Layouts.{Writable, layout-known, writable-for, written_link, written_yard}
use Rattle.survey_roundtrip.specs.Fields.{ranks-are, window}

-- a mark that opens bytes is their first two
opening : (s mark : List ℕ) → length mark ≡ 2 → mark_at s 0 mark ≡ true → mark ≡ byte_at s 0 ∷ byte_at s 1 ∷ []
opening s [] e q = absurd (omega arith)
opening s (a ∷ []) e q = absurd (omega arith)
opening s (a ∷ b ∷ []) e q =
    ap₂ (λ (x y : ℕ). x ∷ y ∷ []) (sym (eqb-true _ _ (left (eqb (byte_at s 0) a) _ q))) (sym (eqb-true _ _ (right (eqb (byte_at s 0) a) _ q)))
opening s (a ∷ b ∷ c ∷ mark) e q = absurd (omega arith)

-- ---- one link record

-- a record at the front
link-front : (t mark : List ℕ) → OfBytes t → written_link ≤ length t → length mark ≡ 2 → mark_at t 0 mark ≡ true
    → link_bytes mark (link_in t 0) ≡ take written_link t
unfolding link_bytes numbers_from
link-front t mark bytes room two marked =
    let sum = bytes-i32 t bytes.each 4 in
    let c1 = bytes-i16 t bytes.each 8 in
    let c2 = bytes-i16 t bytes.each 10 in
    ap₂ (λ (a b : List ℕ). a ++ (byte_at t 2 ∷ byte_at t 3 ∷ b)) (opening t mark two marked)
    (ap₂ (λ (a b : List ℕ). a ++ b) sum (ap₂ (λ (a b : List ℕ). a ++ b) c1 c2))
    ∙ sym (window written_link 0 t room)

-- the figures of a record are those of its bytes elsewhere
link-moved : (t s : List ℕ) (at : ℕ) → Moved t 0 s at → link_in s at ≡ link_in t 0
link-moved t s at moved =
    λ k.
    record {
      first = (moved_on moved 2).each 0 k;
      second = (moved_on moved 2).each 1 k;
      sum = signed w32 (moved-u32 (moved_on moved 4) k);
      c1 = signed w16 (moved-u16 (moved_on (moved_on moved 8) (2 * 0)) k);
      c2 = signed w16 (moved-u16 (moved_on (moved_on moved 8) (2 * 1)) k);
    }

-- a record at an index
link-former : (s mark : List ℕ) (at : ℕ) → OfBytes s → at + written_link ≤ length s → length mark ≡ 2 → mark_at s at mark ≡ true
    → link_bytes mark (link_in s at) ≡ take written_link (drop at s)
link-former s mark at bytes room two marked =
    let t : List ℕ = drop at s in
    let here : (k : ℕ) → byte_at s (at + k) ≡ byte_at t k = λ k. sym (get_or-drop at s k 0) in
    let moved : Moved t 0 s at = record { each = λ k. here k ∙ ap (byte_at t) (sym (zero-add k)) } in
    let size = length-drop at s in
    ap (link_bytes mark) (link-moved t s at moved)
    ∙ link-front t mark (record { each = λ i. rw (← here i) (bytes.each (at + i)) }) (omega arith) two (sym (moved-mark moved mark) ∙ marked)

-- ---- the survey

module _ (s : List ℕ) (l : Layout) (w : Writable l) (fine : RecordsFine s l) (bytes : OfBytes s) where
  abbrev m : ℕ
  m = link_count l s

  -- the link records from number k on
  links-former : (n k : ℕ) → k + n ≤ m
      → join (map (link_bytes l.link.mark) (map (λ i. link_in s (link_start l i)) (numbers_from n k))) ≡ take (n * written_link) (drop (link_start l k) s)
  unfolding numbers_from
  links-former zero k h = refl
  links-former (suc n) k h =
      let room : link_start l k + written_link ≤ length s = omega (arith, inside fine.records k (omega arith), w.slots) in
      let first = link-former s l.link.mark (link_start l k) bytes room w.link-marked (fine.link k (omega arith)).marked in
      let next : link_start l (suc k) ≡ link_start l k + written_link = let e = suc-mul k l.link.size in omega (arith, w.link-size) in
      let more : suc n * written_link ≡ written_link + n * written_link = let e = suc-mul n written_link in omega arith in
      ap₂ (λ (a b : List ℕ). a ++ b) first (links-former n (suc k) (omega arith) ∙ ap (λ (j : ℕ). take (n * written_link) (drop j s)) next)
      ∙ ap (λ (r : List ℕ). take written_link (drop (link_start l k) s) ++ take (n * written_link) r) (sym (drop-drop written_link (link_start l k) s))
      ∙ sym (take-add written_link (n * written_link) (drop (link_start l k) s))
      ∙ ap (λ (j : ℕ). take j (drop (link_start l k) s)) (sym more)

  -- the link count that is written is that of the links
  counted : has_count l ≡ true → count_in l s ≡ m
  unfolding bad_count
  counted e = eqb-true _ _ (not-false _ (rw e at fine.yard.count))

  -- the yard record, by the bytes behind its shared fields and its size
  yard-by : (rest : List ℕ) (size : ℕ) → cond (has_count l) (little_endian 1 m) [] ≡ rest → l.yard.size ≡ size
      → byte_at s 0 ∷ byte_at s 1 ∷ byte_at s 2 ∷ byte_at s 3 ∷ byte_at s 4 ∷ byte_at s 5 ∷ rest ≡ map (byte_at s) (numbers_from size 0)
      → yard_bytes l (figures_in l s).yard m ≡ take l.yard.size s
  unfolding yard_bytes figures_in
  yard-by rest size count e bytes-are =
      let mark = opening s l.yard.mark w.marked fine.yard.mark in
      ap (λ (k : List ℕ). l.yard.mark ++ (byte_at s 2 ∷ byte_at s 3 ∷ get_or k 0 0 ∷ get_or k 1 0 ∷ cond (has_count l) (little_endian 1 m) []))
      (ranks-are l w s (omega (arith, fine.records.size)))
      ∙ ap₂ (λ (a b : List ℕ). a ++ (byte_at s 2 ∷ byte_at s 3 ∷ byte_at s 4 ∷ byte_at s 5 ∷ b)) mark count
      ∙ bytes-are
      ∙ sym (window size 0 s (omega (arith, fine.records.size)))
      ∙ ap (λ (k : ℕ). take k s) (sym e)

  -- with a link count
  with-count : has_count l ≡ true → yard_bytes l (figures_in l s).yard m ≡ take l.yard.size s
  unfolding numbers_from
  with-count e =
      let at : count_at l ≡ 6 = w.counted ∙ ap (λ (b : Bool). cond b written_yard 0) e in
      let written : byte_at s 6 ≡ m = ap (byte_at s) (sym at) ∙ counted e in
      let byte : m % 256 ≡ byte_at s 6 = omega (arith, written, fine.yard.few-links) in
      yard-by (byte_at s 6 ∷ []) 7 (ap (λ (b : Bool). cond b (little_endian 1 m) []) e ∙ ap (λ (x : ℕ). x ∷ []) byte)
      (w.size ∙ ap (λ (b : Bool). written_yard + cond b 1 0) e) refl

  -- and without one
  without-count : has_count l ≡ false → yard_bytes l (figures_in l s).yard m ≡ take l.yard.size s
  unfolding numbers_from
  without-count e =
      yard-by [] 6 (ap (λ (b : Bool). cond b (little_endian 1 m) []) e) (w.size ∙ ap (λ (b : Bool). written_yard + cond b 1 0) e) refl

  -- THE THEOREM: its former bytes
  pub survey-former : survey_in l (figures_in l s) ≡ s
  unfolding survey_in figures_in
  survey-former =
      let first = l.yard.size in
      let many : length (figures_in l s).links ≡ m = length-map (numbers_from m 0) (λ i. link_in s (link_start l i)) ∙ numbers-length m 0 in
      let start : link_start l 0 ≡ first = let e = zero-mul l.link.size in omega arith in
      let size : m * l.link.size ≡ m * written_link = ap (λ (k : ℕ). m * k) w.link-size in
      let room : length (drop first s) ≤ m * written_link = let e = length-drop first s in omega (arith, fine.records.size) in
      ap₂ (λ (a b : List ℕ). a ++ b)
      (ap (yard_bytes l (figures_in l s).yard) many ∙ by-test (has_count l) with-count without-count)
      (links-former m 0 (omega arith) ∙ ap (λ (k : ℕ). take (m * written_link) (drop k s)) start ∙ take_all (m * written_link) (drop first s) room)
      ∙ take-append-drop first s

-- so figures that a survey of a kind says, written with that kind, are that survey
pub figures-survey : (s : List ℕ) (kind : ℕ) (f : Figures) → OfBytes s → Says s kind f → unknown_kind kind ≡ false → survey_of f kind ≡ s
figures-survey s kind f bytes told known =
    let layout : layout_for kind ≡ layout_of s = layout-known s kind told.kept known in
    ap (λ (k : Layout). survey_in k f) layout
    ∙ ap (survey_in (layout_of s)) (sym told.read)
    ∙ survey-former s (layout_of s) (rw (← layout) (writable-for kind)) (accepted-records s told.accepted) bytes
