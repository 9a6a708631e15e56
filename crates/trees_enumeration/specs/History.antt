-- The groups after each link that is taken, as an array has them.
use Rattle.std.specs.Prelude.{ℕ, zero, suc, ◌+◌, ◌-◌, ◌≤◌, ◌<◌, ◌≡◌, refl, length, set, take, get_or}
use Rattle.std.proofs.Math.Path.{ap, subst⁻¹}
use mathlib.Core.List.{List, [], ◌∷◌, ◌++◌}
use Rattle.std.proofs.Common.{⊎_elim, sym, ◌∙◌, eq-or-lt_of_le, le_of_suc-le-suc, take_all, get_or-set_other, get_or-set_same, add-one, arith, length-append, length-set}
use Rattle.std.proofs.lemmas.List.{take-append-le}
use Rattle.spanning.specs.LabelList.{label_of}
use Rattle.network.specs.Yard.{ends_at}
use Rattle.forest.specs.Groups.{Led, apart, joined, leaders-joined, nobody}
use Rattle.forest.specs.History.{Near, groups-led, groups-more, groups_after}
use Rattle.forest.specs.declared.Forest.{Forest}

-- an array has the groups after each link of a list
pub record Recorded (ends links : List ℕ) (history : List Forest) : Type 0 where
  pub room : length links ≤ length history
  pub row : (k : ℕ) → k < length links → get_or history k nobody ≡ groups_after ends (take (k + 1) links)

-- the groups after the first n links
unfoldable pub groups_at : List Forest → ℕ → Forest
groups_at history zero = apart
groups_at history (suc k) = get_or history k nobody

-- before all links, and after some
pub groups_none : (history : List Forest) {count : ℕ} {r : Forest} → count ≡ 0 → r ≡ apart → r ≡ groups_at history count
unfolding groups_at
groups_none history e q = rw e q

pub groups_some : (history : List Forest) (count : ℕ) → (count ≡ 0 → ⊥) → get_or history (count - 1) nobody ≡ groups_at history count
unfolding groups_at
groups_some history zero n = absurd (n refl)
groups_some history (suc k) n = let e : suc k - 1 ≡ k = omega arith in rw e

-- the groups of a list between stations, and with a link more, as the program joins them
module _ (ends l : List ℕ) (near : Near ends l) {f : Forest} (is : f ≡ groups_after ends l) where
  pub led-after : Led f
  led-after = subst⁻¹ Led is (groups-led ends l near)

  pub joined-after : (e : ℕ) {f' : Forest} {new old : ℕ} → new ≡ label_of f.leader (ends_at ends e).a → old ≡ label_of f.leader (ends_at ends e).b
      → f' ≡ joined f new old → f' ≡ groups_after ends (l ++ (e ∷ []))
  joined-after e p q j =
      let a = (ends_at ends e).a in
      let b = (ends_at ends e).b in
      j ∙ leaders-joined f a b p q led-after ∙ ap (λ (g : Forest). joined g a b) is ∙ sym (groups-more ends l e)

-- a link more
module _ {ends l : List ℕ} {history : List Forest} (e : ℕ) {f : Forest} (R : Recorded ends l history) (room : length l + 1 ≤ length history)
    (new : f ≡ groups_after ends (l ++ (e ∷ []))) where
  pub recorded_more : Recorded ends (l ++ (e ∷ [])) (set history (length l) f)
  recorded_more =
      let more = length-append l (e ∷ []) in
      record {
        room = omega (arith, length-set history (length l) f);
        row = λ k h. ⊎_elim (own k) (earlier k) (eq-or-lt_of_le (le_of_suc-le-suc (let m : k < length l + 1 = omega arith in rw add-one at m)));
      }
    where
      earlier : (k : ℕ) → k < length l → get_or (set history (length l) f) k nobody ≡ groups_after ends (take (k + 1) (l ++ (e ∷ [])))
      earlier k h =
          get_or-set_other history (length l) k f nobody (λ q. omega arith)
          ∙ R.row k h
          ∙ ap (groups_after ends) (sym (take-append-le (k + 1) l (e ∷ []) (omega arith)))

      own : (k : ℕ) → k ≡ length l → get_or (set history (length l) f) k nobody ≡ groups_after ends (take (k + 1) (l ++ (e ∷ [])))
      own k h =
          rw (h, take_all (length l + 1) (l ++ (e ∷ [])) (omega (arith, length-append l (e ∷ []))), ← new)
          (get_or-set_same history (length l) f nobody (omega arith))

-- a link fewer
pub recorded-fewer : (ends l : List ℕ) (e : ℕ) (history : List Forest) → Recorded ends (l ++ (e ∷ [])) history → Recorded ends l history
recorded-fewer ends l e history R =
    let more = length-append l (e ∷ []) in
    record {
      room = let r = R.room in omega arith;
      row = λ k h. R.row k (omega arith) ∙ ap (groups_after ends) (take-append-le (k + 1) l (e ∷ []) (omega arith));
    }

-- the last groups that an array has are those after all links
pub groups-recorded : (ends l : List ℕ) (history : List Forest) → Recorded ends l history → groups_at history (length l) ≡ groups_after ends l
unfolding groups_at groups_after
groups-recorded ends [] history R = refl
groups-recorded ends (x ∷ l) history R =
    let whole : take (length l + 1) (x ∷ l) ≡ x ∷ l = take_all (length l + 1) (x ∷ l) (omega arith) in
    R.row (length l) (omega arith) ∙ ap (groups_after ends) whole
