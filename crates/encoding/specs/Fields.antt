-- Fields of one width, written one after the other.
use Rattle.std.specs.Prelude.{List, [], ◌∷◌, ◌++◌, map, ◌≡◌, refl, ℕ, ◌+◌, ◌*◌, ◌≤◌, ◌<◌, get_or, length, take}
use Rattle.std.proofs.Common.{append_assoc, append-nil, sym, ap, ◌∙◌, suc-mul, zero-mul, add-one, arith, length-append, length-take-le, take_all, take-suc}
use Rattle.std.proofs.lemmas.List.{map-append}
use Rattle.network.specs.PlanList.{join}
use Rattle.buffers.specs.Overwrite.{overwrite, overwrite-chain, overwrite-nothing}

join-append : (a b : List (List ℕ)) → join (a ++ b) ≡ join a ++ join b
join-append [] b = refl
join-append (x ∷ a) b = ap (λ (l : List ℕ). x ++ l) (join-append a b) ∙ sym (append_assoc x (join a) (join b))

module _ {A : Type 0} (f : A → List ℕ) where
  -- the bytes of fields
  abbrev pub field_bytes : List A → List ℕ
  field_bytes xs = join (map f xs)

  -- one field more
  field-more : (xs : List A) (d : A) (r : ℕ) → r < length xs → field_bytes (take (r + 1) xs) ≡ field_bytes (take r xs) ++ f (get_or xs r d)
  field-more xs d r h =
      ap (λ (k : ℕ). field_bytes (take k xs)) (add-one r)
      ∙ ap field_bytes (take-suc xs r d h)
      ∙ ap join (map-append f (take r xs) (get_or xs r d ∷ []))
      ∙ join-append (map f (take r xs)) (f (get_or xs r d) ∷ [])
      ∙ ap (λ (l : List ℕ). field_bytes (take r xs) ++ l) (append-nil (f (get_or xs r d)))

  -- the first r fields are written, from index i on
  pub record Written (xs : List A) (i : ℕ) (before after : List ℕ) (r : ℕ) : Type 0 where
    pub bytes : after ≡ overwrite before i (field_bytes (take r xs))
    pub few : r ≤ length xs

  pub written_start : (xs : List A) (i : ℕ) (before : List ℕ) → Written xs i before before 0
  written_start xs i before = record { bytes = overwrite-nothing before i; few = omega arith }

  pub written-end : (xs : List A) (i : ℕ) (before after : List ℕ) (r : ℕ) → Written xs i before after r → length xs ≤ r
      → after ≡ overwrite before i (field_bytes xs)
  written-end xs i before after r w h = w.bytes ∙ ap (λ (l : List A). overwrite before i (field_bytes l)) (take_all r xs h)

  module _ (width : ℕ) (wide : (x : A) → length (f x) ≡ width) where
    pub fields-length : (xs : List A) → length (field_bytes xs) ≡ length xs * width
    fields-length [] = sym (zero-mul width)
    fields-length (x ∷ xs) =
        let ih = fields-length xs in
        let own = wide x in
        length-append (f x) (field_bytes xs) ∙ omega (arith, suc-mul (length xs) width)

    -- a turn that writes field r
    pub written-turn : (xs : List A) (i : ℕ) (before now : List ℕ) (r : ℕ) (d : A) {at : ℕ} {after : List ℕ} → Written xs i before now r → r < length xs
        → i ≤ length before → at ≡ i + r * width → after ≡ overwrite now at (f (get_or xs r d)) → Written xs i before after (r + 1)
    written-turn xs i before now r d {at} w h room e q =
        let size = fields-length (take r xs) in
        let first = length-take-le r xs w.few in
        let place : at ≡ i + length (field_bytes (take r xs)) = e ∙ ap (λ (k : ℕ). i + k) (sym (size ∙ ap (λ (k : ℕ). k * width) first)) in
        record {
          bytes = overwrite-chain before i (field_bytes (take r xs)) at (f (get_or xs r d)) q w.bytes place room
              ∙ ap (overwrite before i) (sym (field-more xs d r h));
          few = omega arith;
        }
