-- A tree as a flag for each link, and its links, rising. Of two trees of one size the first in dictionary order is the one that has the
-- first link at which their flags differ.
use Rattle.std.specs.Prelude.{ℕ, suc, ◌+◌, ◌≤◌, ◌<◌, zero, Bool, cond, ◌⊎◌, ◌≡◌, length, drop, get_or, replicate}
use Rattle.std.specs.Bool.{beq}
use Rattle.std.proofs.Math.Bool.{true, false, not}
use mathlib.Core.List.Memᴰ
use mathlib.Core.List.Memᴰ.{head as here}
use mathlib.Core.List.Memᴰ.{tail as there}
use mathlib.Core.List.{List, [], ◌∷◌, foldl}
use Rattle.std.proofs.Common.{inl, inr, ⊎_elim, sym, ◌∙◌, zero-add, arith, drop_of_length-le, length-set, get_or-set_same, get_or-set_other, le-leb}
use Rattle.std.proofs.Math.Path.{refl}
use Rattle.std.proofs.Math.Decide.{ℕ_discrete}
use Rattle.std.proofs.Math.Nat.{suc_inj}
use Rattle.std.proofs.Math.Numerals.{add-one}
use Rattle.std.proofs.lemmas.List.{length-replicate}
use Rattle.std.proofs.Math.Seq.{drop-cons}
use Rattle.std.proofs.lemmas.Bool.{lt-leb}
use Rattle.order.specs.Test.{clash}
use Rattle.order.specs.Lists.{◌∈◌}
use Rattle.order.specs.Order.{dictionary_le, orderℕ}
use Rattle.order.proofs.Order.{le_refl}
use Rattle.order.specs.Sorted.{Apart, ascending}
use Rattle.order.proofs.Sorted.{mem-sort, rising-unique, sort-mem, sort-rising}
use Rattle.spanning.specs.Rising.{RisingIn}
use Rattle.spanning.proofs.Rising.{rising-in, rising-weaken}
use Rattle.network.specs.Capacities.{links_held}
use Rattle.kruskal.specs.Grown.{with_flag, flags_of}

-- the links with a flag, rising, where the first flag is that of link e
unfoldable pub rising : ℕ → List Bool → List ℕ
rising e [] = []
rising e (f ∷ flags) = let r = rising (suc e) flags in cond f (e ∷ r) r

-- ---- the links of flags

rising-range : (e m : ℕ) (flags : List Bool) → e + length flags ≡ m → RisingIn e m (rising e flags)
unfolding rising
rising-range e m [] h = tt
rising-range e m (true ∷ flags) h = (omega arith, omega arith, rising-range (suc e) m flags (omega arith))
rising-range e m (false ∷ flags) h = rising-weaken e (suc e) m (rising (suc e) flags) (omega arith) (rising-range (suc e) m flags (omega arith))

rising-flag : (e x : ℕ) (flags : List Bool) → x ∈ rising e flags → (i : ℕ) × (x ≡ e + i) × (get_or flags i false ≡ true)
unfolding rising
rising-flag e x [] m = elim m [ ]
rising-flag e x (true ∷ flags) m =
    ⊎_elim
    (λ (q : x ≡ e). (0, omega arith, refl))
    (λ n. let r = rising-flag (suc e) x flags n in let q = r.1 in (suc r.0, omega arith, r.2))
    (Memᴰ.cases_cons m)
rising-flag e x (false ∷ flags) m = let r = rising-flag (suc e) x flags m in let q = r.1 in (suc r.0, omega arith, r.2)

flag-rising : (e i x : ℕ) (flags : List Bool) → x ≡ e + i → get_or flags i false ≡ true → x ∈ rising e flags
unfolding rising
flag-rising e i x [] q f = clash f refl
flag-rising e zero x (true ∷ flags) q f = let p : x ≡ e = omega arith in here p
flag-rising e zero x (false ∷ flags) q f = clash f refl
flag-rising e (suc i) x (true ∷ flags) q f = there (flag-rising (suc e) i x flags (omega arith) f)
flag-rising e (suc i) x (false ∷ flags) q f = flag-rising (suc e) i x flags (omega arith) f

-- ---- the flags of links

set-flag : (flags : List Bool) (e x : ℕ) → x < length flags → (x ≡ e) ⊎ (get_or flags x false ≡ true) → get_or (with_flag flags e) x false ≡ true
set-flag flags e x h s = go (ℕ_discrete x e) s
  where
    go : Dec (x ≡ e) → (x ≡ e) ⊎ (get_or flags x false ≡ true) → get_or (with_flag flags e) x false ≡ true
    go (yes q) s = rw (← q) (get_or-set_same flags x true false h)
    go (no n) (inl q) = absurd (n q)
    go (no n) (inr f) = get_or-set_other flags e x true false n ∙ f

flag-set : (flags : List Bool) (e x : ℕ) → get_or (with_flag flags e) x false ≡ true → (x ≡ e) ⊎ (get_or flags x false ≡ true)
flag-set flags e x f = go (ℕ_discrete x e)
  where
    go : Dec (x ≡ e) → (x ≡ e) ⊎ (get_or flags x false ≡ true)
    go (yes q) = inl q
    go (no n) = inr (sym (get_or-set_other flags e x true false n) ∙ f)

flags-from : (ts : List ℕ) (flags : List Bool) (x : ℕ) → x < length flags → (x ∈ ts) ⊎ (get_or flags x false ≡ true)
    → get_or (foldl with_flag flags ts) x false ≡ true
flags-from [] flags x h (inl m) = elim m [ ]
flags-from [] flags x h (inr f) = f
flags-from (t ∷ ts) flags x h s = flags-from ts (with_flag flags t) x (omega (arith, length-set flags t true)) (go s)
  where
    go : (x ∈ t ∷ ts) ⊎ (get_or flags x false ≡ true) → (x ∈ ts) ⊎ (get_or (with_flag flags t) x false ≡ true)
    go (inl m) = ⊎_elim (λ q. inr (set-flag flags t x h (inl q))) (λ n. inl n) (Memᴰ.cases_cons m)
    go (inr f) = inr (set-flag flags t x h (inr f))

flags-to : (ts : List ℕ) (flags : List Bool) (x : ℕ) → get_or (foldl with_flag flags ts) x false ≡ true → (x ∈ ts) ⊎ (get_or flags x false ≡ true)
flags-to [] flags x f = inr f
flags-to (t ∷ ts) flags x f =
    ⊎_elim (λ m. inl (there m)) (λ g. ⊎_elim (λ q. inl (here q)) (λ k. inr k) (flag-set flags t x g)) (flags-to ts (with_flag flags t) x f)

no_flag : (n x : ℕ) → get_or (replicate n false) x false ≡ true → ⊥
no_flag zero x f = clash f refl
no_flag (suc n) zero f = clash f refl
no_flag (suc n) (suc x) f = no_flag n x f

-- only links of the list have a flag
pub flag-member : (ts : List ℕ) (x : ℕ) → get_or (flags_of ts) x false ≡ true → x ∈ ts
unfolding flags_of
flag-member ts x f = ⊎_elim (λ m. m) (λ g. absurd (no_flag links_held x g)) (flags-to ts (replicate links_held false) x f)

pub flags-length : (ts : List ℕ) → length (flags_of ts) ≡ links_held
unfolding flags_of
flags-length ts = go ts (replicate links_held false) ∙ length-replicate links_held false
  where
    go : (ts : List ℕ) (flags : List Bool) → length (foldl with_flag flags ts) ≡ length flags
    go [] flags = refl
    go (t ∷ ts) flags = go ts (with_flag flags t) ∙ length-set flags t true

-- the flags of links of which none stands twice give these links back in rising order
pub flags-rising : (ts : List ℕ) → Apart (λ x. x) ts → ((t : ℕ) → t ∈ ts → t < links_held) → rising 0 (flags_of ts) ≡ ascending ts
unfolding flags_of
flags-rising ts apart below =
    rising-unique orderℕ (λ x. x) (rising 0 (flags_of ts)) (ascending ts)
    (rising-in 0 (length (flags_of ts)) (rising 0 (flags_of ts)) (rising-range 0 (length (flags_of ts)) (flags_of ts) (zero-add (length (flags_of ts)))))
    (sort-rising orderℕ (λ x. x) ts apart)
    (λ x m. let r = rising-flag 0 x (flags_of ts) m in
    let q : x ≡ r.0 = omega arith in
    ⊎_elim (λ k. mem-sort orderℕ (λ x. x) (Memᴰ.cast q k)) (λ f. absurd (no_flag links_held r.0 f)) (flags-to ts (replicate links_held false) r.0 r.2))
    (λ x m. let k = sort-mem orderℕ (λ x. x) ts m in
    flag-rising 0 x x (flags_of ts) (sym (zero-add x)) (flags-from ts (replicate links_held false) x (below x k) (inl k)))

-- ---- which of two trees comes first

-- at the first place at which they differ, a has the flag
unfoldable pub first : List Bool → List Bool → Bool
first [] b = false
first (x ∷ a) [] = false
first (true ∷ a) (true ∷ b) = first a b
first (true ∷ a) (false ∷ b) = true
first (false ∷ a) (true ∷ b) = false
first (false ∷ a) (false ∷ b) = first a b

-- a loop that compares flag by flag: equal flags, different ones, the end
module _ (a b : List Bool) (i : ℕ) (ha : i < length a) (hb : i < length b) where
  pub first-turn : not (beq (get_or a i false) (get_or b i false)) ≡ false → first (drop i a) (drop i b) ≡ first (drop (i + 1) a) (drop (i + 1) b)
  unfolding first
  first-turn e = rw (drop-cons a i false ha, drop-cons b i false hb, add-one i) (go (get_or a i false) (get_or b i false) (drop (suc i) a) (drop (suc i) b) e)
    where
      go : (x y : Bool) (a b : List Bool) → not (beq x y) ≡ false → first (x ∷ a) (y ∷ b) ≡ first a b
      go true true a b n = refl
      go true false a b n = clash refl n
      go false true a b n = clash refl n
      go false false a b n = refl

  pub first_found : not (beq (get_or a i false) (get_or b i false)) ≡ true → first (drop i a) (drop i b) ≡ get_or a i false
  unfolding first
  first_found e = rw (drop-cons a i false ha, drop-cons b i false hb) (go (get_or a i false) (get_or b i false) (drop (suc i) a) (drop (suc i) b) e)
    where
      go : (x y : Bool) (a b : List Bool) → not (beq x y) ≡ true → first (x ∷ a) (y ∷ b) ≡ x
      go true true a b n = clash n refl
      go true false a b n = refl
      go false true a b n = refl
      go false false a b n = clash n refl

pub first-end : (a b : List Bool) (i : ℕ) → length a ≤ i → first (drop i a) (drop i b) ≡ false
unfolding first
first-end a b i h = rw (drop_of_length-le a h)

-- a list that starts with link k, and one of links above k
after : (k m : ℕ) (l ys : List ℕ) → RisingIn (suc k) m ys → 0 < length ys → dictionary_le orderℕ ys (k ∷ l) ≡ false
after k m l [] r h = absurd (omega arith)
after k m l (y ∷ ys) r h = rw (lt-leb y k r.0)

before : (k m : ℕ) (l ys : List ℕ) → RisingIn (suc k) m ys → 0 < length ys → dictionary_le orderℕ (k ∷ l) ys ≡ true
before k m l [] r h = absurd (omega arith)
before k m l (y ∷ ys) r h = rw (le-leb k y (omega arith), lt-leb y k r.0)

pub first-dictionary : (k : ℕ) (a b : List Bool) → length a ≡ length b → length (rising k a) ≡ length (rising k b)
    → dictionary_le orderℕ (rising k b) (rising k a) ≡ not (first a b)
unfolding rising first
first-dictionary k [] [] l h = refl
first-dictionary k [] (y ∷ b) l h = absurd (omega arith)
first-dictionary k (x ∷ a) [] l h = absurd (omega arith)
first-dictionary k (true ∷ a) (true ∷ b) l h = rw (le_refl orderℕ k) (first-dictionary (suc k) a b (suc_inj l) (suc_inj h))
first-dictionary k (true ∷ a) (false ∷ b) l h =
    after k (suc k + length b) (rising (suc k) a) (rising (suc k) b) (rising-range (suc k) (suc k + length b) b refl) (omega arith)
first-dictionary k (false ∷ a) (true ∷ b) l h =
    before k (suc k + length a) (rising (suc k) b) (rising (suc k) a) (rising-range (suc k) (suc k + length a) a refl) (omega arith)
first-dictionary k (false ∷ a) (false ∷ b) l h = first-dictionary (suc k) a b (suc_inj l) h
