-- The bytes of a survey that was written: how many they are, and the fields that the reader finds in them.
use Rattle.std.specs.Prelude.{Bool, true, false, cond, ◌≡◌, refl, ℕ, zero, suc, ◌+◌, ◌*◌, ◌≤◌, ◌<◌, get_or, take}
use mathlib.Core.List.{List, [], ◌∷◌, ◌++◌, map, append_assoc, append-nil}
use Rattle.std.proofs.Common.{sym, ◌∙◌, arith, zero-add, drop-cons, get_or-drop, get_or-take, SFits}
use Rattle.std.proofs.Math.Path.{ap, ap₂}
use Rattle.std.proofs.Math.ListN.{drop, length, length-append}
use Rattle.std.proofs.lemmas.List.{length-map}
use Rattle.std.proofs.Math.Seq.{drop-append-add, get_or-append-add, take_at}
use Rattle.std.specs.Int.{w16, w32}
use mir.ValLaws.{of_z_fits}
use store.Seg.{eqb_same}
use Rattle.order.specs.Lists.{numbers_from}
use Rattle.order.proofs.Lists.{get_or_map, map-mem}
use Rattle.order.specs.Test.{by-test}
use Rattle.network.specs.Bytes.{bits_of, byte_at, little_endian, mark_at, u32_at}
use Rattle.network.specs.Limits.{max_links}
use Rattle.network.specs.Survey.{ceilings_in, cost_bits, cost_bits_in, count_in, end_in, has_count, layout_of, link_start, narrow_slots, ranks_at, ranks_in}
use Rattle.network.specs.Survey.{stations_in}
use Rattle.network.specs.Tabulate.{tabulate}
use Rattle.network.proofs.Layouts.{layout-kept}
use Rattle.network.specs.Refusals.{bad_count}
use Rattle.network.specs.PlanList.{join}
use Rattle.network.specs.Moved.{Moved}
use Rattle.network.proofs.Moved.{moved-mark, moved_on, moved-u16, moved-u32}
use Rattle.network.specs.Writing.{Figures, Link, link_bytes, links_figures_checked, no_link, survey_in, yard_bytes}
use Rattle.network.specs.Checked.{no_refusal}
use Rattle.network.specs.declared.Layout.{Layout}
use Rattle.network.specs.declared.YardFigures.{YardFigures}
use Rattle.encoding.specs.RoundTrip.{u16-bytes, u32-bytes}
use Rattle.encoding.specs.Blocks.{Sized, join-at, length-join}
use Rattle.survey_roundtrip.specs.Layouts.{Writable, written_link, written_yard}

-- ---- slices

-- k bytes from an index on, one by one
pub window : (k at : ℕ) (s : List ℕ) → at + k ≤ length s → take k (drop at s) ≡ map (byte_at s) (numbers_from k at)
unfolding numbers_from
window zero at s h = refl
window (suc k) at s h =
    ap (take (suc k)) (drop-cons s at 0 (omega arith)) ∙ ap (λ (r : List ℕ). byte_at s at ∷ r) (window k (suc at) s (omega arith))

-- the ranks, of which there are two
pub ranks-are : (l : Layout) → Writable l → (s : List ℕ) → l.yard.size ≤ length s → ranks_in l s ≡ byte_at s 4 ∷ byte_at s 5 ∷ []
unfolding ranks_in numbers_from
ranks-are l w s h = ap (λ (k : ℕ). take k (drop ranks_at s)) w.slots ∙ window narrow_slots ranks_at s (omega (arith, w.size))

-- ---- one link record

-- the figures of a link fit their bytes
pub record Fitting (x : Link) : Type 0 where
  pub sum : SFits w32 x.sum
  pub c1 : SFits w16 x.c1
  pub c2 : SFits w16 x.c2

-- Each link before which none is refused fits its bytes. That an entry of a column is a number of its type is known of entries that are read, and links
-- after the first that is refused are not.
pub record Met (f : Figures) : Type 0 where
  pub each : (i : ℕ) → i < length f.links → links_figures_checked f.yard f.links i ≡ no_refusal → Fitting (get_or f.links i no_link)

-- a link record with this mark and these figures stands at an index
pub record LinkHeld (s : List ℕ) (at : ℕ) (mark : List ℕ) (x : Link) : Type 0 where
  pub marked : mark_at s at mark ≡ true
  pub first : end_in s at 0 ≡ x.first
  pub second : end_in s at 1 ≡ x.second
  pub sum : u32_at s (at + 4) ≡ bits_of w32 x.sum
  pub c1 : cost_bits_in s at 0 ≡ bits_of w16 x.c1
  pub c2 : cost_bits_in s at 1 ≡ bits_of w16 x.c2

-- the bits of its costs, of which there are two
pub costs-are : {s : List ℕ} {at : ℕ} {mark : List ℕ} {x : Link} → LinkHeld s at mark x
    → cost_bits narrow_slots s at ≡ bits_of w16 x.c1 ∷ bits_of w16 x.c2 ∷ []
unfolding cost_bits tabulate
costs-are held = ap₂ (λ (a b : ℕ). a ∷ b ∷ []) held.c1 held.c2

-- in its own bytes
link-front : (mark : List ℕ) (x : Link) (rest : List ℕ) → length mark ≡ 2 → Fitting x → LinkHeld (link_bytes mark x ++ rest) 0 mark x
unfolding link_bytes bits_of
link-front [] x rest e fits = absurd (omega arith)
link-front (a ∷ []) x rest e fits = absurd (omega arith)
link-front (a ∷ b ∷ []) x rest e fits =
    record {
      marked = rw (eqb_same a, eqb_same b);
      first = refl;
      second = refl;
      sum = u32-bytes (bits_of w32 x.sum) (of_z_fits w32 x.sum fits.sum).fits;
      c1 = u16-bytes (bits_of w16 x.c1) (of_z_fits w16 x.c1 fits.c1).fits;
      c2 = u16-bytes (bits_of w16 x.c2) (of_z_fits w16 x.c2 fits.c2).fits;
    }
link-front (a ∷ b ∷ c ∷ mark) x rest e fits = absurd (omega arith)

-- and wherever these bytes stand
link-moved : (t s : List ℕ) (at : ℕ) (mark : List ℕ) (x : Link) → Moved t 0 s at → LinkHeld t 0 mark x → LinkHeld s at mark x
link-moved t s at mark x moved held =
    record {
      marked = moved-mark moved mark ∙ held.marked;
      first = (moved_on moved 2).each 0 ∙ held.first;
      second = (moved_on moved 2).each 1 ∙ held.second;
      sum = moved-u32 (moved_on moved 4) ∙ held.sum;
      c1 = moved-u16 (moved_on (moved_on moved 8) (2 * 0)) ∙ held.c1;
      c2 = moved-u16 (moved_on (moved_on moved 8) (2 * 1)) ∙ held.c2;
    }

pub length-link : (mark : List ℕ) (x : Link) → length mark ≡ 2 → length (link_bytes mark x) ≡ written_link
unfolding link_bytes
length-link mark x e = length-append mark _ ∙ ap (λ (k : ℕ). k + 10) e

-- ---- the survey

-- the bytes of the link count, if there is one
count-length : (b : Bool) (m : ℕ) → length (cond b (little_endian 1 m) []) ≡ cond b 1 0
count-length true m = refl
count-length false m = refl

-- the yard record has its size
pub yard-length : (l : Layout) → Writable l → (y : YardFigures) (m : ℕ) → length (yard_bytes l y m) ≡ l.yard.size
unfolding yard_bytes
yard-length l w y m =
    let all = length-append l.yard.mark (y.n ∷ y.p ∷ y.k1 ∷ y.k2 ∷ cond (has_count l) (little_endian 1 m) []) in
    let count = count-length (has_count l) m in
    omega (arith, w.marked, w.size)

module _ (l : Layout) (w : Writable l) (f : Figures) where
  abbrev m : ℕ
  m = length f.links

  abbrev s : List ℕ
  s = survey_in l f

  abbrev yard : List ℕ
  yard = yard_bytes l f.yard m

  -- the link records
  abbrev records : List (List ℕ)
  records = map (link_bytes l.link.mark) f.links

  -- the fields behind the mark of the yard record
  abbrev fields : List ℕ
  fields = f.yard.n ∷ f.yard.p ∷ f.yard.k1 ∷ f.yard.k2 ∷ cond (has_count l) (little_endian 1 m) []

  length-yard : length yard ≡ l.yard.size
  length-yard = yard-length l w f.yard m

  sized : Sized written_link records
  sized b q =
      let x = map-mem (link_bytes l.link.mark) f.links b q in
      ap length x.2 ∙ length-link l.link.mark x.0 w.link-marked

  pub survey-length : length s ≡ l.yard.size + m * written_link
  unfolding survey_in
  survey-length =
      length-append yard (join records)
      ∙ ap₂ (λ (a b : ℕ). a + b) length-yard (length-join written_link records sized ∙ ap (λ (k : ℕ). k * written_link) (length-map f.links _))

  -- what stands from link record i on
  abbrev behind : ℕ → List ℕ
  behind i = join (drop (suc i) records) ++ []

  link-bytes : (i : ℕ) → i < m → drop (link_start l i) s ≡ link_bytes l.link.mark (get_or f.links i no_link) ++ behind i
  unfolding survey_in
  link-bytes i h =
      let start : link_start l i ≡ length yard + i * written_link = ap₂ (λ (a b : ℕ). a + i * b) (sym length-yard) w.link-size in
      let inside : i < length records = rw (length-map f.links (link_bytes l.link.mark)) h in
      ap (λ (k : ℕ). drop k s) start
      ∙ drop-append-add yard (join records) (i * written_link)
      ∙ ap (drop (i * written_link)) (sym (append-nil (join records)))
      ∙ join-at written_link records [] sized i inside
      ∙ ap (λ (b : List ℕ). b ++ behind i) (get_or_map (link_bytes l.link.mark) f.links i no_link [] h)

  -- link record i holds the figures of link i
  pub link-held : (i : ℕ) → i < m → Fitting (get_or f.links i no_link) → LinkHeld s (link_start l i) l.link.mark (get_or f.links i no_link)
  link-held i h fits =
      let x : Link = get_or f.links i no_link in
      let t : List ℕ = link_bytes l.link.mark x ++ behind i in
      let moved : Moved t 0 s (link_start l i) =
      record {
        each = λ k. sym (get_or-drop (link_start l i) s k 0) ∙ ap (λ (b : List ℕ). byte_at b k) (link-bytes i h) ∙ ap (byte_at t) (sym (zero-add k));
      } in
      link-moved t s (link_start l i) l.link.mark x moved (link-front l.link.mark x (behind i) w.link-marked fits)

  -- the fields of the yard record
  field : (j : ℕ) → byte_at s (2 + j) ≡ byte_at (fields ++ join records) j
  unfolding survey_in yard_bytes
  field j =
      ap (λ (b : List ℕ). byte_at b (2 + j)) (append_assoc l.yard.mark fields (join records))
      ∙ ap (λ (k : ℕ). byte_at (l.yard.mark ++ (fields ++ join records)) (k + j)) (sym w.marked)
      ∙ get_or-append-add l.yard.mark (fields ++ join records) j 0

  -- its mark
  front : take 2 s ≡ l.yard.mark
  unfolding survey_in yard_bytes
  front =
      ap (take 2) (append_assoc l.yard.mark fields (join records)) ∙ take_at l.yard.mark (fields ++ join records) 2 w.marked

  -- the reader takes the layout that it was written in
  pub survey-layout : layout_of s ≡ l
  survey-layout = sym (layout-kept s 2 (omega arith)) ∙ ap layout_of front ∙ w.read

  mark-byte : (j : ℕ) → j < 2 → byte_at s j ≡ byte_at l.yard.mark j
  mark-byte j h = sym (get_or-take 2 s j 0 h) ∙ ap (λ (b : List ℕ). byte_at b j) front

  -- the yard record holds the yard's figures, and the link count where it has one
  pub record YardHeld : Type 0 where
    pub marked : mark_at s 0 l.yard.mark ≡ true
    pub stations : stations_in s ≡ f.yard.n
    pub ceilings : ceilings_in s ≡ f.yard.p
    pub ranks : ranks_in l s ≡ f.yard.k1 ∷ f.yard.k2 ∷ []
    pub count : m ≤ max_links → bad_count s l m ≡ false

  counted : has_count l ≡ true → m ≤ max_links → count_in l s ≡ m
  counted e few =
      ap (byte_at s) (w.counted ∙ ap (λ (b : Bool). cond b written_yard 0) e)
      ∙ field 4
      ∙ ap (λ (b : Bool). byte_at (cond b (little_endian 1 m) [] ++ join records) 0) e
      ∙ omega arith

  right-count : m ≤ max_links → bad_count s l m ≡ false
  unfolding bad_count
  right-count few = by-test (has_count l) (λ e. rw (e, counted e few, eqb_same m)) (λ e. rw e)

  pub yard-held : YardHeld
  yard-held =
      record {
        marked = rw (mark-byte 0 (omega arith), mark-byte 1 (omega arith), eqb_same (byte_at l.yard.mark 0), eqb_same (byte_at l.yard.mark 1));
        stations = field 0;
        ceilings = field 1;
        ranks = ranks-are l w s (omega (arith, survey-length)) ∙ ap₂ (λ (a b : ℕ). a ∷ b ∷ []) (field 2) (field 3);
        count = right-count;
      }
