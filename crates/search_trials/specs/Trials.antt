-- Trials of one and of two exceptions: they take the base without what it loses, and stand for the trees that their sets lead to.
use Prim.Native.Nat.{ℕ, ◌+◌, ◌-◌, ◌*◌, ◌≤◌, ◌<◌}
use Rattle.std.specs.Prelude.{Option, None, true, false, ◌≡◌, refl, get_or, length}
use mathlib.Core.List.{List, [], ◌∷◌, ◌++◌, map}
use Rattle.std.proofs.Math.Path.{sym}
use Rattle.std.proofs.Common.{◌∙◌, mul-le-mul_right, length-append}
use native.Mathlib.Omega.{arith}
use Rattle.order.specs.Perm.{sum}
use Rattle.order.proofs.Perm.{perm-map, perm-sym, perm-⊆, sum-append, sum-perm}
use Rattle.trees_costs.specs.Added.{sum-le}
use Rattle.spanning.specs.Labelling.{Crosses, Edge, Labelling, ◌≈◌, crosses, merge}
use Rattle.spanning.proofs.Labelling.{crosses→Crosses}
use Rattle.spanning.specs.Tree.{EndsBelow, identity, merge_all}
use Rattle.spanning.proofs.Tree.{merge_all-⊑}
use Rattle.spanning.specs.Kruskal.{kruskal}
use Rattle.spanning.specs.Places.{at_places, other, other_two, weight_at}
use Rattle.spanning.proofs.Places.{length-sum, sum-without, sum-without-two, two_past, weight-at, weight-none}
use Rattle.spanning.specs.Lost.{lost_one, lost_two}
use Rattle.spanning.proofs.Lost.{kept-one, kept-two, lost-apart}
use Rattle.network.specs.Capacities.{links_held, stations_held, sum_held}
use Rattle.network.specs.Yard.{ends_at, sum_at}
use Rattle.forest.specs.History.{Near}
use Rattle.forest.specs.declared.Forest.{Forest}
use Rattle.kruskal.specs.Base.{Recorded}
use Rattle.kruskal.specs.Grown.{Holds}
use Rattle.kruskal.specs.Tree.{Columns, Tree, Usable, Walkable}
use Rattle.search_trials.specs.BaseAlone.{Kept}
use Rattle.search_trials.specs.Search.{Best, offered, tried}
use Rattle.search_trials.specs.Marks.{Flagged}
use Rattle.search_trials.specs.Sets.{pair}
use Rattle.search_trials.specs.Stands.{Stands, exceptions_of, grown_from, links_by, place_of}
use Rattle.search_trials.specs.declared.best.ExceptionSet.TheVariants as set
use Rattle.search_trials.specs.declared.best.Trial.{Trial}
use Rattle.search_trials.specs.Grows.{base-forest, flags-perm, grown-set, one-near, one-whole, pair-near, pair-perm, pair-ring, pair-whole, ring}
use Rattle.search_trials.specs.Grows.{tried-ring, tried-tree, two-whole}
use Rattle.search_trials.specs.declared.trials.Lost.{Lost}

-- the number of the base's links at a place, and their raised cost
unfoldable pub lost_at : List ℕ → List ℕ → ℕ → Lost
lost_at sums base place = record { count = weight_at (λ e. 1) base place; cost = weight_at (sum_at sums) base place }

pub lost-here : (sums base : List ℕ) (place cost : ℕ) → place < length base → cost ≡ sum_at sums (get_or base place 0)
    → record { count = 1; cost = cost } ≡ lost_at sums base place
unfolding lost_at
lost-here sums base place cost h c = rw (weight-at (λ e. 1) base place h, weight-at (sum_at sums) base place h, c)

pub lost-none : (sums base : List ℕ) (place : ℕ) → length base ≤ place → record { count = 0; cost = 0 } ≡ lost_at sums base place
unfolding lost_at
lost-none sums base place h = rw (weight-none (λ e. 1) base place h, weight-none (sum_at sums) base place h)

-- the base, which Kruskal's method kept, and the groups after each of its links
pub record Ready (ends sums base : List ℕ) (history : List Forest) : Type 0 where
  pub columns : Columns ends sums
  pub walk : Walkable sums base
  pub near : Near ends base
  pub made : Kept ends base
  pub recorded : Recorded ends base history

-- link e is one of the links, with a cost in range, and joins two stations
pub record Joining (ends sums : List ℕ) (e : ℕ) : Type 0 where
  pub usable : Usable sums e
  pub within : EndsBelow stations_held (ends_at ends e)
  pub joins : crosses identity (ends_at ends e) ≡ true

-- so it has a flag
pub joining-flag : {ends sums : List ℕ} {e : ℕ} → Columns ends sums → Joining ends sums e → e < links_held
joining-flag columns j = omega (arith, j.usable.below, columns.sums-size)

-- the trial t is the base alone
pub record Alone (sums base : List ℕ) (t : Trial) : Type 0 where
  pub count : t.count ≡ length base
  pub sum : t.sum ≡ sum (sum_at sums) base

-- the trial t has one exception
pub record One (ends sums base : List ℕ) (e : ℕ) (t : Trial) : Type 0 where
  pub stands : Stands base (grown_from ends sums base (e ∷ [])) t
  pub set : t.set ≡ set.One e
  pub lost : place_of base t.lost ≡ lost_one (ends_at ends) identity base (ends_at ends e)
  pub flagged : Flagged t

-- ---- one exception

module _ (ends sums base : List ℕ) (made : Kept ends base) (near : Near ends base) (e : ℕ) (j : Joining ends sums e) where
  -- the place that is lost to the exception
  abbrev place_one : ℕ
  place_one = lost_one (ends_at ends) identity base (ends_at ends e)

  -- the tree
  abbrev tree_one : Tree
  tree_one = grown_from ends sums base (e ∷ [])

  pub one_holds : Holds ends sums (e ∷ at_places (other place_one) 0 base) tree_one
  one_holds =
      let k : kruskal (ends_at ends) (merge identity (ends_at ends e)) base ≡ at_places (other place_one) 0 base =
      kept-one (ends_at ends) identity base (ends_at ends e) (merge identity (ends_at ends e)) (base-forest ends base made near)
      (crosses→Crosses identity (ends_at ends e) j.joins) (λ x y s. s, λ x y s. s) in
      rw k at (grown-set ends sums base (e ∷ []) (one-near ends e j.within) near (one-whole ends e j.joins))

  pub one-count : tree_one.count + weight_at (λ x. 1) base place_one ≡ length base + 1
  one-count =
      let rest : List ℕ = at_places (other place_one) 0 base in
      omega (arith, one_holds.size, length-sum rest, sum-without (λ x. 1) base place_one, length-sum base)

  pub one-sum : tree_one.sum + weight_at (sum_at sums) base place_one ≡ sum (sum_at sums) base + sum_at sums e
  one-sum = omega (arith, one_holds.total, sum-without (sum_at sums) base place_one)

-- the base's links and their costs are few enough for the code's numbers
base-small : {sums base : List ℕ} → Walkable sums base → sum (sum_at sums) base ≤ links_held * sum_held
base-small {sums} {base} walk =
    omega (arith, sum-le (sum_at sums) sum_held base (λ e m. (walk.usable e m).cheap), mul-le-mul_right sum_held walk.few)

-- what a place loses is part of the base
lost-part : (sums base : List ℕ) (place : ℕ) → ((lost_at sums base place).count ≤ length base) × ((lost_at sums base place).cost ≤ sum (sum_at sums) base)
unfolding lost_at
lost-part sums base place = (omega (arith, sum-without (λ x. 1) base place, length-sum base), omega (arith, sum-without (sum_at sums) base place))

-- the sums and differences of the code are in range
pub record Ranges (count sum cost : ℕ) (lost : Lost) : Type 0 where
  pub counts : count ≤ 2 * links_held
  pub sums : sum + cost ≤ 2 * links_held * sum_held
  pub fewer : lost.count ≤ count + 1
  pub cheaper : lost.cost ≤ sum + cost

module _ (ends sums base : List ℕ) (history : List Forest) (ready : Ready ends sums base history) (e : ℕ) (j : Joining ends sums e) where
  pub one-ranges : (t : Trial) (cost place : ℕ) (lost : Lost) → Alone sums base t → cost ≡ sum_at sums e → lost ≡ lost_at sums base place
      → Ranges t.count t.sum cost lost
  one-ranges t cost place lost alone c l =
      let part = lost-part sums base place in
      let small = base-small ready.walk in
      let few = ready.walk.few in
      let cheap = j.usable.cheap in
      let count = alone.count in
      let total = alone.sum in
      record { counts = omega arith; sums = omega arith; fewer = rw l (omega arith); cheaper = rw l (omega arith) }

  pub one-stands : (t : Trial) (cost : ℕ) (place : Option ℕ) (lost : Lost) → Alone sums base t → cost ≡ sum_at sums e
      → place_of base place ≡ lost_one (ends_at ends) identity base (ends_at ends e) → lost ≡ lost_at sums base (place_of base place)
      → One ends sums base e
      (record { count = t.count + 1 - lost.count; sum = t.sum + cost - lost.cost; set = set.One e; lost = place; lost2 = None })
  unfolding lost_at links_by exceptions_of
  one-stands t cost place lost alone c p l =
      let made = ready.made in
      let near = ready.near in
      let holds = one_holds ends sums base made near e j in
      let count = one-count ends sums base made near e j in
      let total = one-sum ends sums base made near e j in
      record {
        stands = record {
          count = rw (l, p) (omega (arith, alone.count));
          sum = rw (l, p, c) (omega (arith, alone.sum));
          flags = rw (two_past (place_of base place) (length base) base (omega arith), p) (sym holds.flags);
        };
        set = refl;
        lost = p;
        flagged = record { set = joining-flag ready.columns j };
      }

-- ---- two exceptions

module _ (ends sums base : List ℕ) (made : Kept ends base) (near : Near ends base) (e f : ℕ) (j : Joining ends sums e) (k : Joining ends sums f)
    (whole : ring ends e f ≡ false) where
  -- the places that are lost to the first and to the second
  abbrev first : ℕ
  first = lost_one (ends_at ends) identity base (ends_at ends e)

  abbrev second : ℕ
  second = lost_two (ends_at ends) identity base (ends_at ends e) (ends_at ends f)

  -- the trees of the first alone, and of both
  abbrev tree_first : Tree
  tree_first = grown_from ends sums base (e ∷ [])

  abbrev tree_two : Tree
  tree_two = grown_from ends sums base (pair e f)

  second-crosses : Crosses (merge identity (ends_at ends e)) (ends_at ends f)
  second-crosses = (two-whole ends e f j.joins whole).1.0

  pair-joins : merge_all identity (map (ends_at ends) (pair e f)) ≈ merge (merge identity (ends_at ends e)) (ends_at ends f)
  pair-joins =
      let p = perm-map (ends_at ends) (pair-perm e f) in
      let two : List Edge = ends_at ends e ∷ ends_at ends f ∷ [] in
      let both : List Edge = map (ends_at ends) (pair e f) in
      (merge_all-⊑ both two (λ x y s. s) (perm-⊆ (perm-sym p)), merge_all-⊑ two both (λ x y s. s) (perm-⊆ p))

  pub two-holds : Holds ends sums (pair e f ++ at_places (other_two first second) 0 base) tree_two
  two-holds =
      let L : Labelling = merge_all identity (map (ends_at ends) (pair e f)) in
      let q : kruskal (ends_at ends) L base ≡ at_places (other_two first second) 0 base =
      kept-two (ends_at ends) identity base (ends_at ends e) (ends_at ends f) L (base-forest ends base made near)
      (crosses→Crosses identity (ends_at ends e) j.joins) second-crosses pair-joins in
      rw q at (grown-set ends sums base (pair e f) (pair-near ends e f j.within k.within) near (pair-whole ends e f j.joins whole))

  places-apart : first ≡ second → length base ≤ first
  places-apart = lost-apart (ends_at ends) identity base (ends_at ends e) (ends_at ends f) (crosses→Crosses identity (ends_at ends e) j.joins) second-crosses

  pub two-count : tree_two.count + weight_at (λ x. 1) base second ≡ tree_first.count + 1
  two-count =
      let rest : List ℕ = at_places (other_two first second) 0 base in
      omega (
        arith,
        two-holds.size,
        length-append (pair e f) rest,
        length-sum rest,
        sum-without-two (λ x. 1) base first second places-apart,
        length-sum base,
        one-count ends sums base made near e j,
      )

  pub two-sum : tree_two.sum + weight_at (sum_at sums) base second ≡ tree_first.sum + sum_at sums f
  two-sum =
      let rest : List ℕ = at_places (other_two first second) 0 base in
      omega (
        arith,
        two-holds.total,
        sum-append (sum_at sums) (pair e f) rest,
        sum-perm (sum_at sums) (pair-perm e f),
        sum-without-two (sum_at sums) base first second places-apart,
        one-sum ends sums base made near e j,
      )

module _ (ends sums base : List ℕ) (history : List Forest) (ready : Ready ends sums base history) (e f : ℕ) (j : Joining ends sums e) (k : Joining ends sums f)
    (whole : ring ends e f ≡ false) where
  pub two-ranges : (t : Trial) (cost place : ℕ) (lost : Lost) → One ends sums base e t → cost ≡ sum_at sums f
      → place ≡ lost_two (ends_at ends) identity base (ends_at ends e) (ends_at ends f) → lost ≡ lost_at sums base place
      → Ranges t.count t.sum cost lost
  unfolding lost_at
  two-ranges t cost place lost o c p l =
      let made = ready.made in
      let near = ready.near in
      let small = base-small ready.walk in
      let few = ready.walk.few in
      let cheap = j.usable.cheap in
      let dear = k.usable.cheap in
      let count = o.stands.count in
      let total = o.stands.sum in
      let one = one-count ends sums base made near e j in
      let more = one-sum ends sums base made near e j in
      let two = two-count ends sums base made near e f j k whole in
      let most = two-sum ends sums base made near e f j k whole in
      record { counts = omega arith; sums = omega arith; fewer = rw (l, p) (omega arith); cheaper = rw (l, p) (omega arith) }

  pub two-stands : (t : Trial) (cost : ℕ) (place : Option ℕ) (lost : Lost) → One ends sums base e t → cost ≡ sum_at sums f
      → place_of base place ≡ lost_two (ends_at ends) identity base (ends_at ends e) (ends_at ends f) → lost ≡ lost_at sums base (place_of base place)
      → Stands base (grown_from ends sums base (pair e f))
      (record { count = t.count + 1 - lost.count; sum = t.sum + cost - lost.cost; set = set.Two e f; lost = t.lost; lost2 = place })
  unfolding lost_at links_by exceptions_of
  two-stands t cost place lost o c p l =
      let made = ready.made in
      let near = ready.near in
      let holds = two-holds ends sums base made near e f j k whole in
      let two = two-count ends sums base made near e f j k whole in
      let most = two-sum ends sums base made near e f j k whole in
      let rest : List ℕ = at_places (other_two (place_of base t.lost) (place_of base place)) 0 base in
      record {
        count = rw (l, p) (omega (arith, o.stands.count));
        sum = rw (l, p, c) (omega (arith, o.stands.sum));
        flags = rw (p, o.lost) (flags-perm (e ∷ f ∷ []) (pair e f) _ (pair-perm e f) ∙ sym holds.flags);
      }

-- ---- the sets as they are tried

module _ (ends sums : List ℕ) (goal : ℕ) (base : List ℕ) (b : Best) where
  pub one-tried : {e : ℕ} → Joining ends sums e → tried ends sums goal base b (e ∷ []) ≡ offered goal b (grown_from ends sums base (e ∷ []))
  one-tried {e} j = tried-tree ends sums goal base (e ∷ []) b (one-near ends e j.within) (one-whole ends e j.joins)

  -- two links that are no ring, and two that are one
  pub two-tried : {e f : ℕ} → Joining ends sums e → Joining ends sums f → ring ends e f ≡ false
      → tried ends sums goal base b (pair e f) ≡ offered goal b (grown_from ends sums base (pair e f))
  two-tried {e} {f} j k r =
      tried-tree ends sums goal base (pair e f) b (pair-near ends e f j.within k.within) (pair-whole ends e f j.joins r)

  pub ring-tried : {e f : ℕ} → Joining ends sums e → Joining ends sums f → ring ends e f ≡ true → tried ends sums goal base b (pair e f) ≡ b
  ring-tried {e} {f} j k r = tried-ring ends sums goal base (pair e f) b (pair-near ends e f j.within k.within) (pair-ring ends e f r)
