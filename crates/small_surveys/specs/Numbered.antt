-- The links of a number, digit by digit: the share of a link is how many surveys have the same choices up to and with it, the place of its choice is
-- what is left of the number divided by that share, and the remainder is left for the links behind it.
use mathlib.Core.List.{List, [], ◌∷◌, ◌++◌, map}
use Rattle.std.specs.Prelude.{◌≡◌, refl, ℕ, zero, suc, ◌+◌, ◌-◌, ◌*◌, ◌/◌, ◌%◌, ◌≤◌, ◌<◌, get_or, length, replicate}
use Rattle.std.proofs.Common.{sym, ap₂, subst, ◌∙◌, div-lt_iff_lt-mul, mod-eq_of_lt, mod-lt, mul_assoc, mul-pos}
use Rattle.std.proofs.Math.Path.{ap}
use Rattle.std.proofs.Math.Nat.{add-mul-div_right, add-mul-mod_self_right, mod-add-div', mod-one}
use native.Mathlib.Omega.{arith}
use Rattle.frontier.specs.Frontier.{Picks, positions, product}
use Rattle.frontier.proofs.Frontier.{picks-length}
use Rattle.frontier.proofs.Ordered.{positions-at, positions-pick}
use Rattle.frontier.proofs.Places.{pick-picks, places-range}
use Rattle.network.specs.PlanList.{join}
use Rattle.network.specs.Survey.{plain, row_where}
use Rattle.network.specs.Writing.{Link, layout_for, link_bytes, no_link, survey_at_front, yard_bytes}
use Rattle.network.specs.SmallSurveys.{choice_count, choices, links_in_order, small_figures, small_link_count, small_survey, small_count, small_yard}
use Rattle.buffers.specs.Overwrite.{overwrite, overwrite-chain, overwrite-nothing}
use Rattle.survey_roundtrip.specs.Fields.{length-link}
use Rattle.survey_roundtrip.specs.Layouts.{plain-writable, written_link}
use Rattle.survey_roundtrip.specs.Written.{survey-made}
use Rattle.small_surveys.specs.Choices.{choices-length}

-- ---- shares

-- how many sequences of k choices there are
abbrev share_of : ℕ → ℕ
share_of k = product (replicate k choices)

-- one link more
share-more : (k : ℕ) → share_of (suc k) ≡ choice_count * share_of k
share-more k = ap (λ (n : ℕ). n * share_of k) choices-length

share-some : (k : ℕ) → 0 < share_of k
share-some zero = omega arith
share-some (suc k) = omega (arith, share-more k, share-some k)

-- all links
pub share-all : share_of small_link_count ≡ small_count
share-all = omega (arith, share-more 0, share-more 1, share-more 2)

-- ---- links and their records

-- the links of sequence q of k choices
unfoldable pub chosen_links : ℕ → ℕ → List Link
chosen_links k q = get_or (positions (replicate k choices)) q []

-- their records
unfoldable pub chosen_records : ℕ → ℕ → List ℕ
chosen_records k q = join (map (link_bytes plain.link.mark) (chosen_links k q))

-- the first link's record, and those of the links behind it
records-more : (k q : ℕ) → q < share_of (suc k)
    → chosen_records (suc k) q ≡ link_bytes plain.link.mark (get_or choices (q / share_of k) no_link) ++ chosen_records k (q % share_of k)
unfolding chosen_records chosen_links
records-more k q h = ap (λ (v : List Link). join (map (link_bytes plain.link.mark) v)) (positions-at no_link choices (replicate k choices) q h)

-- a survey has three links, each of them a choice
pub links-picks : (q : ℕ) → q < small_count → Picks (get_or links_in_order q []) (replicate small_link_count choices)
unfolding links_in_order
links-picks q h =
    let inside : q < share_of small_link_count = omega (arith, share-all) in
    rw (positions-pick no_link (replicate small_link_count choices) q inside) (pick-picks no_link (places-range (replicate small_link_count choices) q inside))

pub links-many : (q : ℕ) → q < small_count → length (get_or links_in_order q []) ≡ small_link_count
links-many q h = picks-length (links-picks q h)

-- ---- digits

module _ (b s : ℕ) (some : 0 < s) (q : ℕ) where
  -- what is left of a number is the number but for a multiple of b * s
  parts : q ≡ q % (b * s) + q / (b * s) * b * s
  parts = sym (mod-add-div' q (b * s)) ∙ ap (λ (k : ℕ). q % (b * s) + k) (sym (mul_assoc (q / (b * s)) b s))

  -- its part below s is the number's
  rest_of : q % (b * s) % s ≡ q % s
  rest_of = sym (ap (λ (n : ℕ). n % s) parts ∙ add-mul-mod_self_right (q % (b * s)) (q / (b * s) * b) s)

  -- and its first digit is a digit of the number
  digit-of : 0 < b → q % (b * s) / s ≡ q / s % b
  digit-of any =
      let below : q % (b * s) / s < b = (div-lt_iff_lt-mul some).1 (mod-lt q (mul-pos any some)) in
      sym (ap (λ (n : ℕ). n / s % b) parts
      ∙ ap (λ (n : ℕ). n % b) (add-mul-div_right (q % (b * s)) (q / (b * s) * b) some)
      ∙ add-mul-mod_self_right (q % (b * s) / s) (q / (b * s)) b
      ∙ mod-eq_of_lt below)

-- ---- the loop that writes them

-- the shares of link 0, link 1 and link 2
abbrev pub shares : List ℕ
shares = 144 ∷ 12 ∷ 1 ∷ []

share-at : (i : ℕ) → i < small_link_count → get_or shares i 0 ≡ share_of (small_link_count - suc i)
share-at zero h = omega (arith, share-more 0, share-more 1)
share-at (suc zero) h = omega (arith, share-more 0)
share-at (suc (suc zero)) h = refl
share-at (suc (suc (suc i))) h = absurd (omega arith)

module _ (q first : ℕ) (before : List ℕ) where
  -- what is left of the number once the choices of i links are known
  abbrev left_of : ℕ → ℕ
  left_of i = q % share_of (small_link_count - i)

  -- the records of the links from i on are still to be written, from `at` on
  pub record ToWrite (now : List ℕ) (at i : ℕ) : Type 0 where
    pub whole : overwrite now at (chosen_records (small_link_count - i) (left_of i)) ≡ overwrite before first (chosen_records small_link_count q)
    pub room : at + (small_link_count - i) * written_link ≤ length now
    pub few : i ≤ small_link_count
    pub kept : length now ≡ length before

  pub write-start : q < small_count → first + small_link_count * written_link ≤ length before → ToWrite before first 0
  write-start h room =
      let all : left_of 0 ≡ q = mod-eq_of_lt (rw share-all h) in
      record { whole = ap (λ (k : ℕ). overwrite before first (chosen_records small_link_count k)) all; room = room; few = omega arith; kept = refl }

  module _ {now : List ℕ} {at i : ℕ} (ahead : ToWrite now at i) where
    module _ (h : i < small_link_count) where
      -- the links behind link i
      abbrev behind : ℕ
      behind = small_link_count - suc i

      -- its choice
      abbrev choice : ℕ
      choice = q / get_or shares i 0 % choice_count

      with-this : suc behind ≡ small_link_count - i
      with-this = omega arith

      -- the choice and what is left after it are those of what is left before it
      left-now : left_of i ≡ q % (choice_count * share_of behind)
      left-now = ap (λ (k : ℕ). q % share_of k) (sym with-this) ∙ ap (λ (k : ℕ). q % k) (share-more behind)

      its-choice : left_of i / share_of behind ≡ choice
      its-choice =
          ap (λ (k : ℕ). k / share_of behind) left-now
          ∙ digit-of choice_count (share_of behind) (share-some behind) q (omega arith)
          ∙ ap (λ (k : ℕ). q / k % choice_count) (sym (share-at i h))

      its-rest : left_of i % share_of behind ≡ q % share_of behind
      its-rest = ap (λ (k : ℕ). k % share_of behind) left-now ∙ rest_of choice_count (share_of behind) (share-some behind) q

      pub write-turn : {after : List ℕ} → after ≡ overwrite now at (link_bytes plain.link.mark (get_or choices choice no_link))
          → length after ≡ length now → ToWrite after (at + written_link) (i + 1)
      write-turn {after} e same =
          let link : List ℕ = link_bytes plain.link.mark (get_or choices choice no_link) in
          let size : length link ≡ written_link = length-link plain.link.mark (get_or choices choice no_link) refl in
          let next : small_link_count - (i + 1) ≡ behind = omega arith in
          let inside : left_of i < share_of (suc behind) =
          subst (λ (k : ℕ). left_of i < share_of k) (sym with-this) (mod-lt q (share-some (small_link_count - i))) in
          let both : chosen_records (small_link_count - i) (left_of i) ≡ link ++ chosen_records behind (q % share_of behind) =
          ap (λ (k : ℕ). chosen_records k (left_of i)) (sym with-this)
          ∙ records-more behind (left_of i) inside
          ∙ ap₂ (λ (c r : ℕ). link_bytes plain.link.mark (get_or choices c no_link) ++ chosen_records behind r) its-choice its-rest in
          record {
            whole =
                ap (λ (k : ℕ). overwrite after (at + written_link) (chosen_records k (q % share_of k))) next
                ∙ overwrite-chain now at link (at + written_link) (chosen_records behind (q % share_of behind)) refl e (omega arith) (omega (arith, ahead.room))
                ∙ ap (overwrite now at) (sym both)
                ∙ ahead.whole;
            room = omega (arith, ahead.room);
            few = omega arith;
            kept = same ∙ ahead.kept;
          }

    -- nothing is left
    pub write-end : small_link_count ≤ i → now ≡ overwrite before first (chosen_records small_link_count q)
    unfolding chosen_records chosen_links
    write-end h =
        let none : small_link_count - i ≡ 0 = omega arith in
        let last : left_of i ≡ 0 = ap (λ (k : ℕ). q % share_of k) none ∙ mod-one q in
        overwrite-nothing now at
        ∙ ap (λ (r : List ℕ). overwrite now at r) (sym (ap₂ chosen_records none last))
        ∙ ahead.whole

-- ---- the survey

-- a survey's yard record, and then the records of its links
pub numbered-written : (q : ℕ) → q < small_count → (d : List ℕ) {o o' : List ℕ} → o ≡ overwrite d 0 (yard_bytes plain small_yard small_link_count)
    → o' ≡ overwrite o plain.yard.size (chosen_records small_link_count q) → o' ≡ survey_at_front (small_survey q) d
unfolding small_survey chosen_records chosen_links links_in_order layout_for row_where
numbered-written q h d e records =
    let yard = e ∙ ap (λ (m : ℕ). overwrite d 0 (yard_bytes plain small_yard m)) (sym (links-many q h)) in
    survey-made plain plain-writable (small_figures q) d yard records
