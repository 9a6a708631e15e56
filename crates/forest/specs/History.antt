-- The groups after each link of a list, as rows of leaders in an array: a row for each link, behind those of the links before.
use Rattle.std.specs.Prelude.{ℕ, zero, suc, ◌+◌, ◌*◌, ◌-◌, ◌≤◌, ◌<◌, ◌≡◌, refl, length, take, drop}
use mathlib.Core.List.Memᴰ.{head as here}
use mathlib.Core.List.Memᴰ.{tail as there}
use mathlib.Core.List.{List, [], ◌∷◌, ◌++◌, foldl, foldl-append, map}
use Rattle.std.proofs.Common.{⊎_elim, sym, ◌∙◌, eq-or-lt_of_le, le_of_suc-le-suc, add-one, arith, length-append, drop_at, length-take-le, take-add, take_all}
use Rattle.std.proofs.Math.Path.{ap, fun_ext}
use Rattle.std.proofs.lemmas.List.{take-append-le}
use Rattle.order.specs.Lists.{◌∈◌}
use Rattle.spanning.specs.Labelling.{Labelling}
use Rattle.spanning.specs.LabelList.{label_of}
use Rattle.spanning.specs.Tree.{EndsBelow, identity, merge_all}
use Rattle.network.specs.Capacities.{stations_held}
use Rattle.network.specs.Yard.{ends_at}
use Rattle.buffers.specs.Overwrite.{length-overwrite, overwrite, take-overwrite, written}
use Rattle.forest.specs.Groups.{Led, apart, apart-labels, apart-led, joined, joined-labels, joined-led}
use Rattle.forest.specs.declared.Forest.{Forest}

-- the links of a list join stations
abbrev pub Near : List ℕ → List ℕ → Type 0
Near ends l = (e : ℕ) → e ∈ l → EndsBelow stations_held (ends_at ends e)

-- the groups when the links of a list are joined, one after another, with nothing joined before
unfoldable pub groups_after : List ℕ → List ℕ → Forest
groups_after ends links = foldl (λ f e. joined f (ends_at ends e).a (ends_at ends e).b) apart links

-- the leaders after each link of a list stand in rows of an array
pub record Recorded (ends links history : List ℕ) : Type 0 where
  pub room : length links * stations_held ≤ length history
  pub row : (k : ℕ) → k < length links → take stations_held (drop (k * stations_held) history) ≡ (groups_after ends (take (k + 1) links)).leader

-- the groups after the first n links whose rows an array has
unfoldable pub groups_in : List ℕ → ℕ → Forest
groups_in history zero = apart
groups_in history (suc k) = record { leader = take stations_held (drop (k * stations_held) history) }

-- ---- what the groups join

module _ (ends : List ℕ) where
  -- the groups with the ends of a link joined
  abbrev step : Forest → ℕ → Forest
  step f e = joined f (ends_at ends e).a (ends_at ends e).b

  after-led : (f : Forest) (l : List ℕ) → Led f → Near ends l → Led (foldl step f l)
  after-led f [] led near = led
  after-led f (e ∷ l) led near =
      let w = near e (here refl) in
      after-led (step f e) l (joined-led f (ends_at ends e).a (ends_at ends e).b led w.0 w.1) (λ x m. near x (there m))

  after-labels : (f : Forest) (l : List ℕ) → Led f → Near ends l → label_of (foldl step f l).leader ≡ merge_all (label_of f.leader) (map (ends_at ends) l)
  after-labels f [] led near = refl
  after-labels f (e ∷ l) led near =
      let w = near e (here refl) in
      after-labels (step f e) l (joined-led f (ends_at ends e).a (ends_at ends e).b led w.0 w.1) (λ x m. near x (there m))
      ∙ ap (λ (L : Labelling). merge_all L (map (ends_at ends) l)) (joined-labels f (ends_at ends e).a (ends_at ends e).b led w.0 w.1)

  pub groups-led : (l : List ℕ) → Near ends l → Led (groups_after ends l)
  unfolding groups_after
  groups-led l near = after-led apart l apart-led near

  pub groups-labels : (l : List ℕ) → Near ends l → label_of (groups_after ends l).leader ≡ merge_all identity (map (ends_at ends) l)
  unfolding groups_after
  groups-labels l near =
      after-labels apart l apart-led near ∙ ap (λ (L : Labelling). merge_all L (map (ends_at ends) l)) (fun_ext apart-labels)

-- ---- one row more

-- the groups with a link more
pub groups-more : (ends l : List ℕ) (e : ℕ) → groups_after ends (l ++ (e ∷ [])) ≡ joined (groups_after ends l) (ends_at ends e).a (ends_at ends e).b
unfolding groups_after
groups-more ends l e = foldl-append _ apart l (e ∷ [])

-- a part of a list is that of its front
part : (n i : ℕ) (l : List ℕ) → i ≤ length l → take n (drop i l) ≡ drop i (take (i + n) l)
part n i l h = sym (ap (drop i) (take-add i n l) ∙ drop_at (take i l) (take n (drop i l)) i (length-take-le i l h))

-- it stays where what is written starts behind it
part_stays : (d s : List ℕ) (j n i : ℕ) → i + n ≤ j → j + length s ≤ length d → take n (drop i (overwrite d j s)) ≡ take n (drop i d)
part_stays d s j n i h g =
    part n i (overwrite d j s) (omega (arith, length-overwrite d j s g))
    ∙ ap (drop i) (take-overwrite d j s (i + n) h (omega arith))
    ∙ sym (part n i d (omega arith))

module _ {ends l history : List ℕ} (e : ℕ) {leader : List ℕ} (R : Recorded ends l history) (size : length leader ≡ stations_held)
    (room : (length l + 1) * stations_held ≤ length history) (new : leader ≡ (groups_after ends (l ++ (e ∷ []))).leader) where
  pub recorded_more : Recorded ends (l ++ (e ∷ [])) (overwrite history (length l * stations_held) leader)
  recorded_more =
      let more = length-append l (e ∷ []) in
      let fits : length l * stations_held + length leader ≤ length history = omega arith in
      record {
        room = omega (arith, length-overwrite history (length l * stations_held) leader fits);
        row = λ k h. ⊎_elim (own k) (earlier k) (eq-or-lt_of_le (le_of_suc-le-suc (let m : k < length l + 1 = omega arith in rw add-one at m)));
      }
    where
      fits : length l * stations_held + length leader ≤ length history
      fits = omega (arith, size, room)

      earlier : (k : ℕ) → k < length l
          → take stations_held (drop (k * stations_held) (overwrite history (length l * stations_held) leader))
          ≡ (groups_after ends (take (k + 1) (l ++ (e ∷ [])))).leader
      earlier k h =
          part_stays history leader (length l * stations_held) stations_held (k * stations_held) (omega arith) fits
          ∙ R.row k h
          ∙ ap (λ (t : List ℕ). (groups_after ends t).leader) (sym (take-append-le (k + 1) l (e ∷ []) (omega arith)))

      own : (k : ℕ) → k ≡ length l
          → take stations_held (drop (k * stations_held) (overwrite history (length l * stations_held) leader))
          ≡ (groups_after ends (take (k + 1) (l ++ (e ∷ [])))).leader
      own k h =
          let there = written history (length l * stations_held) leader (omega (arith, size, room)) in
          rw (h, take_all (length l + 1) (l ++ (e ∷ [])) (omega (arith, length-append l (e ∷ []))), ← new) (rw size at there)

-- ---- rows read

-- the groups in the last row are those after all links
pub groups-recorded : (ends l history : List ℕ) → Recorded ends l history → groups_in history (length l) ≡ groups_after ends l
unfolding groups_in groups_after
groups-recorded ends [] history R = refl
groups-recorded ends (x ∷ l) history R =
    let whole : take (length l + 1) (x ∷ l) ≡ x ∷ l = take_all (length l + 1) (x ∷ l) (omega arith) in
    let row = R.row (length l) (omega arith) ∙ ap (λ (t : List ℕ). (groups_after ends t).leader) whole in
    λ i. record { leader = row i }

-- the groups before all rows, and those of a row that a program copies
pub groups_none : (history : List ℕ) {count : ℕ} {r : Forest} → count ≡ 0 → r ≡ apart → r ≡ groups_in history count
unfolding groups_in
groups_none history e q = rw e q

pub groups-row : (history : List ℕ) (count : ℕ) {leader : List ℕ} → ¬ (count ≡ 0)
    → leader ≡ take (count * stations_held - (count * stations_held - stations_held)) (drop (count * stations_held - stations_held) history)
    → record { leader = leader } ≡ groups_in history count
unfolding groups_in
groups-row history zero n e = absurd (n refl)
groups-row history (suc k) {leader} n e =
    let start : suc k * stations_held - stations_held ≡ k * stations_held = omega arith in
    let whole : suc k * stations_held - k * stations_held ≡ stations_held = omega arith in
    let is : leader ≡ take stations_held (drop (k * stations_held) history) = rw (start, whole) at e in
    λ i. record { leader = is i }

-- a link fewer
pub recorded-fewer : (ends l : List ℕ) (e : ℕ) (history : List ℕ) → Recorded ends (l ++ (e ∷ [])) history → Recorded ends l history
recorded-fewer ends l e history R =
    let more = length-append l (e ∷ []) in
    record {
      room = let r = R.room in omega arith;
      row = λ k h. R.row k (omega arith) ∙ ap (λ (t : List ℕ). (groups_after ends t).leader) (take-append-le (k + 1) l (e ∷ []) (omega arith));
    }
