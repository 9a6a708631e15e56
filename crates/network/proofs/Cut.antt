-- An accepted survey that writes its link count and is then cut off is refused: by 15 at the end of a record before its last, and anywhere else by 1.
use Rattle.std.specs.Prelude.{Bool, true, false, cond, Err, ℕ, ◌+◌, ◌-◌, ◌*◌, ◌/◌, ◌≤◌, ◌<◌, ◌≡◌, List, ℤ, length, take}
use Rattle.std.proofs.Math.Path.{refl}
use Rattle.std.proofs.Common.{ap, ◌∙◌, lt_of_mul-lt-mul_right, arith, get_or-take, length-take-le}
use Rattle.std.proofs.Math.Bool.{true, false}
use borrow.Author.Tests.{eqb-true, le-ltb, lt-ltb, ltb-false, ltb-true, ne_eqb, not-false}
use Rattle.std.proofs.Math.Dec.{eqb, ltb}
use Rattle.order.specs.Test.{by-test}
use Rattle.network.specs.Limits.{max_links, max_stations}
use Rattle.network.specs.Bytes.{byte_at, mark_at}
use Rattle.network.specs.Survey.{count_at, count_in, has_count, layout_of, link_count, plain, stations_in}
use Rattle.network.specs.Checked.{refuse_if, ◌or_else◌}
use Rattle.network.specs.Refusals.{bad_count, bad_length, checked_of, checked_with, outside, records_checked, yard_checked}
use Rattle.network.specs.Calls.{Reply, asked, asked_checked, drawn_checked, judged, list_checked, list_status, reply, status}
use Rattle.network.specs.EveryTree.{count_reply, tree_checked, tree_reply, trees_checked}
use Rattle.network.proofs.Layouts.{layout-kept, layout-roomy, layout-short}
use Rattle.network.specs.Accepted.{RecordsFine}
use Rattle.network.proofs.Accepted.{accepted-records, whole-records}
use Rattle.network.specs.Checked.{Checked}
use Rattle.network.specs.Checked.{no_refusal, number_of}
use Rattle.network.specs.declared.refusals.Rule.TheVariants.{BadLength, WrongLinkCount}
use Rattle.network.specs.declared.Layout.{Layout}
use Rattle.network.specs.declared.refusals.Refusal.{Refusal}
use Rattle.network.specs.declared.refusals.Status.{Status}
use Rattle.network.specs.Cut.{CutNoticed, cut_refusal}

-- a wrong length is number 1
refused-length : (l : Layout) (s : List ℕ) → bad_length l (length s) ≡ true → checked_with l s ≡ Err (record { rule = BadLength; place = 0 })
unfolding checked_with records_checked refuse_if ◌or_else◌
refused-length l s e = rw e

-- a yard record whose mark, stations and number of links pass, and that writes another count, is number 15
refused-count : (l : Layout) (s : List ℕ) (m : ℕ) → mark_at s 0 l.yard.mark ≡ true → outside (stations_in s) 1 max_stations ≡ false → m ≤ max_links
    → bad_count s l m ≡ true → yard_checked s l m ≡ Err (record { rule = WrongLinkCount; place = 0 })
unfolding yard_checked refuse_if ◌or_else◌
refused-count l s m mark stations few bad = rw (mark, stations, le-ltb max_links m few, bad)

-- fewer bytes than a yard record are a wrong length
too_short : (l : Layout) (len : ℕ) → len < l.yard.size → bad_length l len ≡ true
unfolding bad_length
too_short l len h = rw (lt-ltb len l.yard.size h)

module _ (s : List ℕ) (l : Layout) (fine : RecordsFine s l) (counts : has_count l ≡ true) (c : ℕ) (h : c < length s) where
  abbrev part : List ℕ
  part = take c s

  size : length part ≡ c
  size = length-take-le c s (omega arith)

  -- a byte in front of the cut
  kept : (i : ℕ) → i < c → byte_at part i ≡ byte_at s i
  kept i less = get_or-take c s i 0 less

  -- the count that is written is that of the whole survey
  written : count_in l s ≡ link_count l s
  unfolding bad_count
  written = eqb-true _ _ (not-false _ (rw counts at fine.yard.count))

  module _ (ends : bad_length l c ≡ false) where
    -- at the end of a record before the last there are fewer links
    fewer : link_count l part < link_count l s
    fewer =
        let cut : c ≡ l.yard.size + (c - l.yard.size) / l.link.size * l.link.size = whole-records l c ends in
        rw size (lt_of_mul-lt-mul_right l.link.size (omega (arith, fine.records.size)))

    -- and the fields of the yard record stand in front of the cut
    cut-yard : yard_checked part l (link_count l part) ≡ Err (record { rule = WrongLinkCount; place = 0 })
    unfolding bad_count
    cut-yard =
        let room = fine.records.roomy in
        let cut : c ≡ l.yard.size + (c - l.yard.size) / l.link.size * l.link.size = whole-records l c ends in
        let mark : mark_at part 0 l.yard.mark ≡ true = rw (kept 0 (omega arith), kept 1 (omega arith)) fine.yard.mark in
        let some : ltb (stations_in s) 1 ≡ false = le-ltb _ _ fine.yard.some-station in
        let few : ltb max_stations (stations_in s) ≡ false = le-ltb _ _ fine.yard.few-stations in
        let other : eqb (count_in l s) (link_count l part) ≡ false = ne_eqb _ _ (λ (e : count_in l s ≡ link_count l part). omega (arith, written, fewer)) in
        refused-count l part (link_count l part) mark (rw (kept 2 (omega arith), some, few)) (omega (arith, fewer, fine.yard.few-links))
        (rw (counts, kept (count_at l) (omega arith), other))

    cut-ends : checked_with l part ≡ Err (record { rule = WrongLinkCount; place = 0 })
    unfolding checked_with records_checked refuse_if ◌or_else◌
    cut-ends =
        let yard = cut-yard in
        rw (size, ends) (rw (rw size at yard))

  cut-long : checked_with l part ≡ cut_refusal l c
  cut-long = by-test (bad_length l c) (λ e. rw e (refused-length l part (rw size e))) (λ e. rw e (cut-ends e))

-- THE THEOREM: every part of an accepted survey with a link count that begins with its first byte, and is not all of it, is refused
pub cut_off : (s : List ℕ) → checked_of s ≡ no_refusal → has_count (layout_of s) ≡ true → (c : ℕ) → c < length s
    → checked_of (take c s) ≡ cut_refusal (layout_of s) c
cut_off s e counts c h = by-test (ltb c 2) short long
  where
    short : ltb c 2 ≡ true → checked_of (take c s) ≡ cut_refusal (layout_of s) c
    short q =
        let less : c < 2 = ltb-true c 2 q in
        let size : length (take c s) ≡ c = length-take-le c s (omega arith) in
        let bad : bad_length (layout_of s) c ≡ true = too_short (layout_of s) c (omega (arith, (layout-roomy s).yard)) in
        rw (layout-short (take c s) (rw size less), bad) (refused-length plain (take c s) (rw size (too_short plain c (omega arith))))

    long : ltb c 2 ≡ false → checked_of (take c s) ≡ cut_refusal (layout_of s) c
    long q = rw (layout-kept s c (ltb-false c 2 q)) (cut-long s (layout_of s) (accepted-records s e) counts c h)

-- ---- what callers rely on

cut-number : (b : Bool) → number_of (cond b BadLength WrongLinkCount) ≡ cond b 1 15
cut-number true = refl
cut-number false = refl

-- a call notices it that replies with what the survey alone decides, where that is a refusal
noticed : (bytes : List ℕ) {number place : ℕ} → ((r : Refusal) → checked_of bytes ≡ Err r → (number ≡ number_of r.rule) × (place ≡ r.place))
    → CutNoticed bytes number place
noticed bytes {number} {place} h = record { declined = go }
  where
    go : (s : List ℕ) → checked_of s ≡ no_refusal → has_count (layout_of s) ≡ true → (c : ℕ) → c < length s → bytes ≡ take c s
        → (number ≡ cond (bad_length (layout_of s) c) 1 15) × (place ≡ 0)
    go s fine counts c less q =
        let cut = bad_length (layout_of s) c in
        let said = h (record { rule = cond cut BadLength WrongLinkCount; place = 0 }) (rw q (cut_off s fine counts c less)) in
        (said.0 ∙ cut-number cut, said.1)

-- one that replies by a check does, where that check has the refusal of the survey alone
cut-replied : (bytes : List ℕ) (c : Checked) (vs : List ℤ) {a : Reply} → ((r : Refusal) → checked_of bytes ≡ Err r → c ≡ Err r) → a ≡ reply c vs
    → CutNoticed bytes a.number a.place
unfolding reply
cut-replied bytes c vs first e =
    noticed bytes (λ r k. let q = first r k in (ap (λ (a : Reply). a.number) e ∙ rw q, ap (λ (a : Reply). a.place) e ∙ rw q))

-- the judge is such a call,
pub cut-judged : (bytes drawn : List ℕ) {a : Reply} → a ≡ judged bytes drawn → CutNoticed bytes a.number a.place
unfolding judged drawn_checked ◌or_else◌
cut-judged bytes drawn e = cut-replied bytes (drawn_checked bytes drawn) _ (λ r k. rw k) e

-- the ceilings question is one,
pub cut-asked : (bytes : List ℕ) (given : List ℤ) (size : ℕ) {a : Reply} → a ≡ asked bytes given size → CutNoticed bytes a.number a.place
unfolding asked asked_checked ◌or_else◌
cut-asked bytes given size e = cut-replied bytes (asked_checked bytes given size) _ (λ r k. rw k) e

-- the number of trees and tree r are,
pub cut-counted : (bytes : List ℕ) {a : Reply} → a ≡ count_reply bytes → CutNoticed bytes a.number a.place
unfolding count_reply trees_checked ◌or_else◌
cut-counted bytes e = cut-replied bytes (trees_checked bytes) _ (λ r k. rw k) e

pub cut-handed : (bytes : List ℕ) (n size : ℕ) {a : Reply} → a ≡ tree_reply bytes n size → CutNoticed bytes a.number a.place
unfolding tree_reply tree_checked trees_checked ◌or_else◌
cut-handed bytes n size e = cut-replied bytes (tree_checked bytes n size) _ (λ r k. rw k) e

-- and the list call notices it too
pub cut-listed : (bytes : List ℕ) (allowance size : ℕ) {a : Status} → a ≡ list_status bytes allowance size → CutNoticed bytes a.number a.place
unfolding list_status list_checked status ◌or_else◌
cut-listed bytes allowance size e =
    noticed bytes (λ r k. (ap (λ (a : Status). a.number) e ∙ rw k, ap (λ (a : Status). a.place) e ∙ rw k))
