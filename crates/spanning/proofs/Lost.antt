-- What a forest loses to one and to two edges that are there before it: of a forest's edges, in their order, Kruskal's method passes over the first
-- that joins the ends of the new edge, and over no other. The edges of the forest are the base.
use Rattle.std.proofs.Math.Bool.{Bool, not}
use Rattle.std.specs.Prelude.{true, false, ◌≡◌, length, take}
use mathlib.Core.List.{List, [], ◌∷◌, map}
use Rattle.std.proofs.Math.Path.{refl, ap}
use Rattle.std.proofs.Common.{sym, ◌∙◌, arith}
use Prim.Native.Nat.{ℕ, suc, ◌+◌, ◌≤◌}
use Rattle.std.proofs.Math.Nat.{suc_inj}
use Rattle.std.proofs.Math.Numerals.{add-one}
use Rattle.order.specs.Test.{by-test}
use Rattle.spanning.specs.Labelling.{Crosses, Edge, Labelling, Same, ◌≈◌, ◌⊑◌, crosses}
use Rattle.spanning.proofs.Labelling.{Crosses-≈, Crosses→crosses, crosses-false, crosses-second}
use Rattle.spanning.proofs.Labelling.{crosses→Crosses}
use Rattle.spanning.specs.Labelling.{merge}
use Rattle.spanning.proofs.Labelling.{merge_keeps, merge-least, merge-same, merge-swap, merge-≈, same-crosses, same-equivalence, trade, ⊑_trans}
use Rattle.spanning.specs.Tree.{Forest}
use Rattle.spanning.proofs.Tree.{forest-≈, merge_all-keeps}
use Rattle.spanning.specs.Kruskal.{Greedy, done, keep, skip, kruskal}
use Rattle.spanning.proofs.Kruskal.{kruskal-greedy}
use Rattle.spanning.specs.Places.{at_places, first_place, other, other_two}
use Rattle.spanning.proofs.Places.{first_next, first-same, two-first, two-later, two-second}
use Rattle.spanning.proofs.Places.{without-first, without-later}
use Rattle.spanning.specs.Lost.{first_row, lost_one, lost_two, row_at}

≈-sym : {L M : Labelling} → L ≈ M → M ≈ L
≈-sym h = (h.1, h.0)

≈-trans : {L M N : Labelling} → L ≈ M → M ≈ N → L ≈ N
≈-trans h k = (⊑_trans h.0 k.0, ⊑_trans k.1 h.1)

-- an edge whose ends are joined joins nothing
merge-idle : (L : Labelling) (e : Edge) → Same L e.a e.b → merge L e ≈ L
merge-idle L e s = (merge-least L e (same-equivalence L) (λ i j p. p) s, merge_keeps L e)

-- whether an edge crosses depends on what is joined alone
crosses-≈ : {L M : Labelling} (e : Edge) → L ≈ M → crosses L e ≡ crosses M e
crosses-≈ {L} {M} e h =
    by-test (crosses L e)
    (λ t. t ∙ sym (Crosses→crosses M e (Crosses-≈ e h (crosses→Crosses L e t))))
    (λ t. t ∙ sym (same-crosses M e (h.0 e.a e.b (crosses-false L e t))))

module _ (ends : ℕ → Edge) where
  -- the first row, and the later ones
  row_here : (test : Labelling → Bool) (L : Labelling) (b : ℕ) (bs : List ℕ) → test (merge L (ends b)) ≡ true → first_row ends test L (b ∷ bs) ≡ 0
  unfolding first_row first_place row_at
  row_here test L b bs e = rw e

  row_next : (L : Labelling) (b : ℕ) (bs : List ℕ) (k : ℕ) → row_at ends L (b ∷ bs) (suc k) ≡ row_at ends (merge L (ends b)) bs k
  unfolding row_at
  row_next L b bs k = rw (add-one (suc k), add-one k)

  row-later : (test : Labelling → Bool) (L : Labelling) (b : ℕ) (bs : List ℕ) → test (merge L (ends b)) ≡ false
      → first_row ends test L (b ∷ bs) ≡ suc (first_row ends test (merge L (ends b)) bs)
  unfolding first_row first_place row_at
  row-later test L b bs e =
      rw e (first_next (λ k. test (row_at ends L (b ∷ bs) k)) 0 (length bs)
      ∙ ap suc (first-same (λ k. test (row_at ends L (b ∷ bs) (suc k))) (λ k. test (row_at ends (merge L (ends b)) bs k)) 0 (length bs)
      (λ k g h. ap test (row_next L b bs k))))

  -- tests that agree on all rows
  row_same : (s t : Labelling → Bool) (L : Labelling) (base : List ℕ) → ((M : Labelling) → L ⊑ M → s M ≡ t M) → first_row ends s L base ≡ first_row ends t L base
  unfolding first_row row_at
  row_same s t L base h =
      first-same (λ k. s (row_at ends L base k)) (λ k. t (row_at ends L base k)) 0 (length base)
      (λ k a b. h (row_at ends L base k) (merge_all-keeps L (map ends (take (k + 1) base))))

  -- a forest is kept whole
  pub kruskal-all : (L : Labelling) (l : List ℕ) → Forest L (map ends l) → kruskal ends L l ≡ l
  unfolding kruskal
  kruskal-all L [] f = refl
  kruskal-all L (c ∷ l) f = rw (Crosses→crosses L (ends c) f.0) (ap (◌∷◌ c) (kruskal-all (merge L (ends c)) l f.1))

  kruskal-taken : (M : Labelling) (b : ℕ) (bs : List ℕ) → Crosses M (ends b) → kruskal ends M (b ∷ bs) ≡ b ∷ kruskal ends (merge M (ends b)) bs
  unfolding kruskal
  kruskal-taken M b bs c = rw (Crosses→crosses M (ends b) c)

  kruskal-left : (M : Labelling) (b : ℕ) (bs : List ℕ) → Same M (ends b).a (ends b).b → kruskal ends M (b ∷ bs) ≡ kruskal ends M bs
  unfolding kruskal
  kruskal-left M b bs s = rw (same-crosses M (ends b) s)

  -- a list that is kept whole is a forest
  kept-few : {L : Labelling} {cs ks : List ℕ} → Greedy ends L cs ks → length ks ≤ length cs
  kept-few done = omega arith
  kept-few (keep c g) = omega (arith, kept-few g)
  kept-few (skip s g) = omega (arith, kept-few g)

  pub kruskal-whole : (L : Labelling) (l : List ℕ) → length (kruskal ends L l) ≡ length l → Forest L (map ends l)
  kruskal-whole L [] h = tt
  kruskal-whole L (c ∷ l) h =
      by-test (crosses L (ends c))
      (λ t.
      let k = crosses→Crosses L (ends c) t in
      (k, kruskal-whole (merge L (ends c)) l (suc_inj (sym (ap length (kruskal-taken L c l k)) ∙ h))))
      (λ t. absurd (omega (arith, kept-few (kruskal-greedy ends L l), ap length (kruskal-left L c l (crosses-false L (ends c) t)))))

  -- ONE EDGE: the base without the edge at lost_one is kept
  pub kept-one : (L : Labelling) (base : List ℕ) (e : Edge) (M : Labelling) → Forest L (map ends base) → Crosses L e → M ≈ merge L e
      → kruskal ends M base ≡ at_places (other (lost_one ends L base e)) 0 base
  unfolding lost_one kruskal at_places
  kept-one L [] e M f c h = refl
  kept-one L (b ∷ bs) e M f c h =
      let N : Labelling = merge L (ends b) in
      let test : Labelling → Bool = λ K. not (crosses K e) in
      by-test (crosses N e)
      (λ t.
      let k = crosses→Crosses N e t in
      let up : Crosses M (ends b) = Crosses-≈ (ends b) (≈-sym h) (crosses-second L (ends b) e f.0 k) in
      kruskal-taken M b bs up
      ∙ ap (◌∷◌ b) (kept-one N bs e (merge M (ends b)) f.1 k (≈-trans (merge-≈ (ends b) h) (merge-swap L e (ends b))))
      ∙ sym (ap (λ (i : ℕ). at_places (other i) 0 (b ∷ bs)) (row-later test L b bs (ap not t)) ∙ without-later (lost_one ends N bs e) b bs))
      (λ t.
      let s = crosses-false N e t in
      kruskal-left M b bs (h.1 (ends b).a (ends b).b (trade L e (ends b) c s))
      ∙ kruskal-all M bs (forest-≈ (map ends bs) (≈-trans (merge-same L e (ends b) c s) (≈-sym h)) f.1)
      ∙ sym (ap (λ (i : ℕ). at_places (other i) 0 (b ∷ bs)) (row_here test L b bs (ap not t)) ∙ without-first b bs))

  -- ---- two edges

  -- e joins its ends beside the base, b is the base's first edge: where b joins the ends of e, it leaves f to cross
  first-apart : (L : Labelling) (b e f : Edge) → Crosses L e → Crosses (merge L e) f → Same (merge L b) e.a e.b
      → crosses (merge (merge L b) e) f ≡ true
  first-apart L b e f c d s =
      Crosses→crosses (merge (merge L b) e) f
      (Crosses-≈ f (≈-trans (≈-sym (merge-same L e b c s)) (≈-sym (merge-idle (merge L b) e s))) d)

  -- where e is idle, f loses what it loses alone
  idle-two : (L : Labelling) (base : List ℕ) (e f : Edge) → Same L e.a e.b → lost_two ends L base e f ≡ lost_one ends L base f
  unfolding lost_one lost_two
  idle-two L base e f s =
      row_same (λ M. not (crosses (merge M e) f)) (λ M. not (crosses M f)) L base
      (λ M h. ap not (crosses-≈ f (merge-idle M e (h e.a e.b s))))

  -- the two places, by the base's first edge
  data First (L : Labelling) (b : ℕ) (bs : List ℕ) (e f : Edge) : ℕ → ℕ → Type 0 where
    neither : Crosses (merge L (ends b)) e → Crosses (merge (merge L (ends b)) e) f
        → First L b bs e f (suc (lost_one ends (merge L (ends b)) bs e)) (suc (lost_two ends (merge L (ends b)) bs e f))
    by_first : Same (merge L (ends b)) e.a e.b → First L b bs e f 0 (suc (lost_one ends (merge L (ends b)) bs f))
    by-second : Crosses (merge L (ends b)) e → Same (merge (merge L (ends b)) e) f.a f.b
        → First L b bs e f (suc (lost_one ends (merge L (ends b)) bs e)) 0

  first_of : (L : Labelling) (b : ℕ) (bs : List ℕ) (e f : Edge) → Crosses L e → Crosses (merge L e) f
      → First L b bs e f (lost_one ends L (b ∷ bs) e) (lost_two ends L (b ∷ bs) e f)
  unfolding lost_one lost_two
  first_of L b bs e f c d =
      let N : Labelling = merge L (ends b) in
      let one : Labelling → Bool = λ M. not (crosses M e) in
      let two : Labelling → Bool = λ M. not (crosses (merge M e) f) in
      by-test (crosses N e)
      (λ t. by-test (crosses (merge N e) f)
      (λ u. rw (row-later one L b bs (ap not t), row-later two L b bs (ap not u)) (neither (crosses→Crosses N e t) (crosses→Crosses (merge N e) f u)))
      (λ u. rw (row-later one L b bs (ap not t), row_here two L b bs (ap not u)) (by-second (crosses→Crosses N e t) (crosses-false (merge N e) f u))))
      (λ t.
      let s = crosses-false N e t in
      let q : lost_two ends N bs e f ≡ lost_one ends N bs f = idle-two N bs e f s in
      rw (row_here one L b bs (ap not t), row-later two L b bs (ap not (first-apart L (ends b) e f c d s)), q) (by_first s))

  -- no edge of the base is lost to both
  pub lost-apart : (L : Labelling) (base : List ℕ) (e f : Edge) → Crosses L e → Crosses (merge L e) f
      → lost_one ends L base e ≡ lost_two ends L base e f → length base ≤ lost_one ends L base e
  lost-apart L [] e f c d q = omega arith
  lost-apart L (b ∷ bs) e f c d q = go (first_of L b bs e f c d) q (λ k m. lost-apart (merge L (ends b)) bs e f k m)
    where
      go : {i j : ℕ} → First L b bs e f i j → i ≡ j
          → (Crosses (merge L (ends b)) e → Crosses (merge (merge L (ends b)) e) f → lost_one ends (merge L (ends b)) bs e ≡ lost_two ends (merge L (ends b)) bs e f
          → length bs ≤ lost_one ends (merge L (ends b)) bs e)
          → suc (length bs) ≤ i
      go (neither k m) q later = let r = later k m (suc_inj q) in omega arith
      go (by_first s) q later = absurd (omega arith)
      go (by-second k s) q later = absurd (omega arith)

  -- TWO EDGES: the base without the edges at lost_one and lost_two is kept
  pub kept-two : (L : Labelling) (base : List ℕ) (e f : Edge) (M : Labelling) → Forest L (map ends base) → Crosses L e → Crosses (merge L e) f
      → M ≈ merge (merge L e) f → kruskal ends M base ≡ at_places (other_two (lost_one ends L base e) (lost_two ends L base e f)) 0 base
  unfolding kruskal at_places
  kept-two L [] e f M F c d h = refl
  kept-two L (b ∷ bs) e f M F c d h =
      go (first_of L b bs e f c d) (λ k m. kept-two (merge L (ends b)) bs e f (merge M (ends b)) F.1 k m)
    where
      N : Labelling
      N = merge L (ends b)

      go : {i j : ℕ} → First L b bs e f i j
          → (Crosses N e → Crosses (merge N e) f → merge M (ends b) ≈ merge (merge N e) f
          → kruskal ends (merge M (ends b)) bs ≡ at_places (other_two (lost_one ends N bs e) (lost_two ends N bs e f)) 0 bs)
          → kruskal ends M (b ∷ bs) ≡ at_places (other_two i j) 0 (b ∷ bs)
      go (neither k m) later =
          let swap : merge (merge L e) (ends b) ≈ merge N e = merge-swap L e (ends b) in
          let up : Crosses (merge L e) (ends b) = crosses-second L (ends b) e F.0 k in
          let over : Crosses (merge (merge L e) f) (ends b) = crosses-second (merge L e) (ends b) f up (Crosses-≈ f (≈-sym swap) m) in
          let joined : merge M (ends b) ≈ merge (merge N e) f =
          ≈-trans (merge-≈ (ends b) h) (≈-trans (merge-swap (merge L e) f (ends b)) (merge-≈ f swap)) in
          kruskal-taken M b bs (Crosses-≈ (ends b) (≈-sym h) over) ∙ ap (◌∷◌ b) (later k m joined)
          ∙ sym (two-later (lost_one ends N bs e) (lost_two ends N bs e f) b bs)
      go (by_first s) later =
          let same : merge L (ends b) ≈ merge L e = merge-same L e (ends b) c s in
          kruskal-left M b bs (h.1 (ends b).a (ends b).b (merge_keeps (merge L e) f (ends b).a (ends b).b (trade L e (ends b) c s)))
          ∙ kept-one N bs f M F.1 (Crosses-≈ f (≈-sym same) d) (≈-trans h (merge-≈ f (≈-sym same)))
          ∙ sym (two-first (lost_one ends N bs f) b bs)
      go (by-second k s) later =
          let swap : merge (merge L e) (ends b) ≈ merge N e = merge-swap L e (ends b) in
          let t : Same (merge (merge L e) (ends b)) f.a f.b = swap.1 f.a f.b s in
          let same : merge (merge L e) (ends b) ≈ merge (merge L e) f = merge-same (merge L e) f (ends b) d t in
          kruskal-left M b bs (h.1 (ends b).a (ends b).b (trade (merge L e) f (ends b) d t))
          ∙ kept-one N bs e M F.1 k (≈-trans h (≈-trans (≈-sym same) swap))
          ∙ sym (two-second (lost_one ends N bs e) b bs)
