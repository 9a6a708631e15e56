-- Where the search through the trees of a yard stands: the links that are taken, the groups after each of them, and the link that is looked at next.
use Rattle.std.specs.Prelude.{Bool, true, false, ◌&&◌, not, eqb, ◌⊎◌, ◌≡◌, ℕ, zero, suc, ◌+◌, ◌*◌, ◌-◌, ◌^◌, ◌≤◌, ◌<◌, ℤ}
use mathlib.Core.List.Memᴰ
use mathlib.Core.List.Memᴰ.{head as here}
use mathlib.Core.List.{List, [], ◌∷◌, ◌++◌, map}
use Rattle.std.proofs.Common.{inl, inr, ◌∙◌, subst, add-one, take-suc, take-suc-set}
use Rattle.std.proofs.Math.Path.{refl, sym, ap, ap₂, subst⁻¹}
use Rattle.std.proofs.Math.Nat.{pow-le-pow_right, sub-zero}
use native.Mathlib.Omega.{arith}
use Rattle.std.proofs.Math.ListN.{get_or, length, length-set, set, take}
use Rattle.std.proofs.Math.Seq.{get_or-set_same, length-take-le, take-set-le}
use Rattle.order.specs.Test.{clash}
use Rattle.order.specs.Lists.{◌∈◌}
use Rattle.spanning.proofs.Branches.{branches-all, come-back, come-empty, come-left, come-none, come-taken, come-whole, fewer-back, fewer-left, fewer-taken}
use Rattle.spanning.specs.Branches.{steps_to_come, takes, to_come}
use Rattle.spanning.proofs.Branches.{trees-few}
use Rattle.spanning.specs.LabelList.{label_of}
use Rattle.spanning.specs.Labelling.{Labelling, crosses}
use Rattle.spanning.specs.Listing.{spanning_trees}
use Rattle.spanning.specs.Tree.{EndsBelow, identity, merge_all}
use Rattle.network.specs.Capacities.{links_held, stations_held, tree_held}
use Rattle.network.specs.Limits.{max_enumerated}
use Rattle.network.proofs.Resting.{joins-within, working-apart, working-few}
use Rattle.network.specs.Shaped.{Plannable}
use Rattle.network.specs.Yard.{ends_at, usable_at, working}
use Rattle.network.specs.declared.Shape.{Shape}
use Rattle.forest.specs.Groups.{Led, joined, leaders-test}
use Rattle.forest.specs.History.{groups-labels, groups_after}
use Rattle.forest.specs.declared.Forest.{Forest}
use Rattle.trees_drawn.specs.Drawn.{Drawable, drawable}
use Rattle.trees_enumeration.specs.History.{Recorded, groups-recorded, groups_at, joined-after, led-after, recorded-fewer, recorded_more}

-- all trees of a shape and its ends, in dictionary order
abbrev pub trees_in : Shape → List ℕ → List (List ℕ)
trees_in shape ends = spanning_trees (ends_at ends) (working shape.n shape.rest) shape.m (usable_at shape.rest ends)

-- links between stations, of which trees have t; two ends for each, and no more than arrays hold
pub record Growable (shape : Shape) (ends : List ℕ) : Type 0 where
  pub drawable : Drawable shape ends
  pub size : length ends ≡ 2 * shape.m
  pub few : shape.m ≤ links_held
  pub small : shape.t ≤ tree_held

-- those of a network that can be planned
pub growable : {shape : Shape} {ends sums : List ℕ} {costs : List ℤ} → Plannable shape ends sums costs → Growable shape ends
growable {shape} can =
    record {
      drawable = drawable can;
      size = can.fine.end-count;
      few = can.fine.few-links;
      small = omega (arith, can.tree, can.fine.few-stations, working-few shape.n shape.rest);
    }

-- arrays with room for the links of a tree, and for the groups after each of them
pub record Roomy (shape : Shape) (links : List ℕ) (history : List Forest) : Type 0 where
  pub room : shape.t ≤ length links
  pub rows : shape.t ≤ length history

-- as many as any network needs
pub roomy : {shape : Shape} {ends links : List ℕ} {history : List Forest} → Growable shape ends → length links ≡ tree_held → length history ≡ tree_held
    → Roomy shape links history
roomy can e f = record { room = omega (arith, can.small, e); rows = omega (arith, can.small, f) }

-- the first `taken` of the links are taken, fewer than a tree has, with the groups after each of them, and `link` is looked at next
pub record Standing (m t : ℕ) (ends : List ℕ) (taken link : ℕ) (links : List ℕ) (history : List Forest) : Type 0 where
  pub fewer : taken ≤ t - 1
  pub inside : link ≤ m
  pub known : (c : ℕ) → c ∈ take taken links → c < m
  pub rows : Recorded ends (take taken links) history

-- those that are taken are a tree, with the groups after each but the last
pub record TreeTaken (shape : Shape) (ends : List ℕ) (taken : ℕ) (links : List ℕ) (history : List Forest) : Type 0 where
  pub all : taken ≡ shape.t
  pub known : (c : ℕ) → c ∈ take shape.t links → c < shape.m
  pub rows : Recorded ends (take (shape.t - 1) links) history

-- those that are taken are a tree, with the groups after each
pub record Whole (shape : Shape) (ends : List ℕ) (taken : ℕ) (links : List ℕ) (history : List Forest) : Type 0 where
  pub all : taken ≡ shape.t
  pub known : (c : ℕ) → c ∈ take taken links → c < shape.m
  pub rows : Recorded ends (take taken links) history

-- the trees that are still to come from a branch on
unfoldable pub coming : ℕ → ℕ → ℕ → List ℕ → ℕ → ℕ → List ℕ → List (List ℕ)
coming rest m t ends taken link links = to_come (ends_at ends) (usable_at rest ends) identity m t (take taken links) link

-- the trees after the one that is the first t of the links: its last link is left instead; a tree without links is the only one
unfoldable pub later_by : ℕ → Shape → List ℕ → List ℕ → List (List ℕ)
later_by zero shape ends links = []
later_by (suc k) shape ends links = coming shape.rest shape.m shape.t ends k (suc (get_or links k 0)) links

unfoldable pub later : Shape → List ℕ → List ℕ → List (List ℕ)
later shape ends links = later_by shape.t shape ends links

-- the trees from the one that is the first t of the links on, where there is one
unfoldable pub ahead_from : Shape → List ℕ → Bool → List ℕ → List (List ℕ)
ahead_from shape ends true links = take shape.t links ∷ later shape ends links
ahead_from shape ends false links = []

-- a search through some trees has come to the first of them, or has found that there is none
pub record Reached (shape : Shape) (ends : List ℕ) (all : List (List ℕ)) (found : Bool) (taken : ℕ) (links : List ℕ) (history : List Forest) : Type 0 where
  pub trees : all ≡ ahead_from shape ends found links
  pub whole : found ≡ true → TreeTaken shape ends taken links history

-- the same trees, found from elsewhere on
pub reached-from : {shape : Shape} {ends : List ℕ} {from all : List (List ℕ)} {found : Bool} {taken : ℕ} {links : List ℕ} {history : List Forest} → all ≡ from
    → Reached shape ends all found taken links history → Reached shape ends from found taken links history
reached-from e r = record { trees = sym e ∙ r.trees; whole = r.whole }

-- what is ahead of a tree that was found, and of none
module _ (shape : Shape) (ends links : List ℕ) {found : Bool} where
  pub from-some : found ≡ true → ahead_from shape ends found links ≡ take shape.t links ∷ later shape ends links
  unfolding ahead_from
  from-some e = rw e

  pub from-none : found ≡ false → ahead_from shape ends found links ≡ []
  unfolding ahead_from
  from-none e = rw e

-- of at most 12 links there are no more trees than sets of links
pub trees-limit : (shape : Shape) (ends : List ℕ) → shape.m ≤ max_enumerated → length (trees_in shape ends) ≤ 2 ^ max_enumerated
trees-limit shape ends few =
    let sets = trees-few (ends_at ends) (working shape.n shape.rest) shape.m (usable_at shape.rest ends) in
    let most : 2 ^ shape.m ≤ 2 ^ max_enumerated = pow-le-pow_right {n = 2} (omega arith) few in
    omega arith

-- the steps that are still to come
unfoldable pub steps_from : ℕ → ℕ → ℕ → List ℕ → ℕ
steps_from m taken link links = steps_to_come m (take taken links) link

-- ---- a branch

-- of one link more
one_more : (l : List ℕ) (k e : ℕ) → k < length l → take (k + 1) (set l k e) ≡ take k l ++ (e ∷ [])
one_more l k e h = rw (add-one k) (take-suc-set l k e h)

-- the last link taken
pub last_taken : (l : List ℕ) (k : ℕ) → 0 < k → k ≤ length l → take k l ≡ take (k - 1) l ++ (get_or l (k - 1) 0 ∷ [])
last_taken l zero h g = absurd (omega arith)
last_taken l (suc k) h g = let e : suc k - 1 ≡ k = omega arith in rw e (take-suc l k 0 (omega arith))

pub later-none : (shape : Shape) (ends links : List ℕ) → shape.t ≡ 0 → later shape ends links ≡ []
unfolding later later_by
later-none shape ends links e = rw e

pub later-coming : (shape : Shape) (ends links : List ℕ) → 0 < shape.t
    → coming shape.rest shape.m shape.t ends (shape.t - 1) (get_or links (shape.t - 1) 0 + 1) links ≡ later shape ends links
unfolding later later_by
later-coming shape ends links some = go shape.t some
  where
    go : (t : ℕ) → 0 < t → coming shape.rest shape.m shape.t ends (t - 1) (get_or links (t - 1) 0 + 1) links ≡ later_by t shape ends links
    go zero h = absurd (omega arith)
    go (suc k) h = let e : suc k - 1 ≡ k = omega arith in rw (e, add-one)

module _ (shape : Shape) (ends : List ℕ) (can : Growable shape ends) where
  abbrev within : (c : ℕ) → EndsBelow stations_held (ends_at ends c)
  within c = can.drawable.stations.within c

  -- from no link on: all trees
  pub coming-all : (links : List ℕ) → coming shape.rest shape.m shape.t ends 0 0 links ≡ trees_in shape ends
  unfolding coming to_come
  coming-all links =
      let d = can.drawable in
      rw (sub-zero shape.m, d.tree)
      (branches-all (ends_at ends) (usable_at shape.rest ends) (working shape.n shape.rest) shape.m d.some-station
      (working-apart shape.n shape.rest)
      (λ c h u. let w = d.within c h in joins-within shape.n shape.rest (ends_at ends c) w.0 w.1 u))

  -- before all links
  pub standing-none : (links : List ℕ) (history : List Forest) → Standing shape.m shape.t ends 0 0 links history
  standing-none links history =
      record {
        fewer = omega arith;
        inside = omega arith;
        known = λ c m. elim m [ ];
        rows = record { room = omega arith; row = λ k h. absurd (omega arith) };
      }

  -- the trees to come, by what is taken
  abbrev come : List ℕ → ℕ → List (List ℕ)
  come ts k = to_come (ends_at ends) (usable_at shape.rest ends) identity shape.m shape.t ts k

  module _ {links : List ℕ} {history : List Forest} (lent : Roomy shape links history) where
    -- from a tree on: its last link is left instead
    pub whole-standing : {taken : ℕ} → 0 < taken → TreeTaken shape ends taken links history
        → Standing shape.m shape.t ends (taken - 1) (get_or links (taken - 1) 0 + 1) links history
    whole-standing some w =
        let all = w.all in
        rw all (
        let c = get_or links (shape.t - 1) 0 in
        let l : take shape.t links ≡ take (shape.t - 1) links ++ (c ∷ []) = last_taken links shape.t (omega arith) lent.room in
        let below = w.known c (subst⁻¹ (λ (ts : List ℕ). c ∈ ts) l (Memᴰ.append_right (take (shape.t - 1) links) (here refl))) in
        record {
          fewer = omega arith;
          inside = omega arith;
          known = λ b m. w.known b (subst⁻¹ (λ (ts : List ℕ). b ∈ ts) l (Memᴰ.append_left (c ∷ []) m));
          rows = w.rows;
        })

    module _ {taken link : ℕ} (at : Standing shape.m shape.t ends taken link links history) where
      -- how many are taken
      count : length (take taken links) ≡ taken
      count = length-take-le taken links (omega (arith, at.fewer, lent.room))

      near : (e : ℕ) → e ∈ take taken links → EndsBelow stations_held (ends_at ends e)
      near e m = within e

      -- the last groups are those after all that are taken
      pub groups-here : groups_at history taken ≡ groups_after ends (take taken links)
      groups-here = ap (groups_at history) (sym count) ∙ groups-recorded ends (take taken links) history at.rows

      pub led-here : {f : Forest} → f ≡ groups_after ends (take taken links) → Led f
      led-here is = led-after ends (take taken links) near is

      -- no links are a tree
      pub reached-empty : shape.t ≤ taken → Reached shape ends (coming shape.rest shape.m shape.t ends taken link links) true taken links history
      unfolding coming ahead_from later later_by
      reached-empty h =
          let none : taken ≡ 0 = omega (arith, at.fewer) in
          let size : shape.t ≡ 0 = omega (arith, at.fewer) in
          let all : shape.t ≡ taken = omega arith in
          let rows : shape.t - 1 ≡ taken = omega arith in
          record {
            trees = rw (none, size) (come-empty (ends_at ends) (usable_at shape.rest ends) identity shape.m link);
            whole = λ q. record {
              all = sym all;
              known = λ c m. at.known c (subst (λ (n : ℕ). c ∈ take n links) all m);
              rows = rw rows at.rows;
            };
          }

      -- too few links are left, and none is taken
      pub reached-none : shape.m - link < shape.t - taken → taken ≡ 0 → {taken' : ℕ} {links' : List ℕ} {history' : List Forest}
          → Reached shape ends (coming shape.rest shape.m shape.t ends taken link links) false taken' links' history'
      unfolding coming ahead_from
      reached-none few e =
          record {
            trees = ap (λ (n : ℕ). come (take n links) link) e
                ∙ come-none (ends_at ends) (usable_at shape.rest ends) identity shape.m shape.t link (omega arith);
            whole = λ q. clash q refl;
          }

      -- the last link taken is left instead
      module _ (some : 0 < taken) where
        -- that one
        abbrev last : ℕ
        last = get_or links (taken - 1) 0

        parted : take taken links ≡ take (taken - 1) links ++ (last ∷ [])
        parted = last_taken links taken some (omega (arith, at.fewer, lent.room))

        pub back-standing : Standing shape.m shape.t ends (taken - 1) (last + 1) links history
        back-standing =
            let below = at.known last (subst⁻¹ (λ (ts : List ℕ). last ∈ ts) parted (Memᴰ.append_right (take (taken - 1) links) (here refl))) in
            record {
              fewer = omega (arith, at.fewer);
              inside = omega arith;
              known = λ c m. at.known c (subst⁻¹ (λ (ts : List ℕ). c ∈ ts) parted (Memᴰ.append_left (last ∷ []) m));
              rows = recorded-fewer ends (take (taken - 1) links) last history (subst (λ (ts : List ℕ). Recorded ends ts history) parted at.rows);
            }

        pub back-coming : shape.m - link < shape.t - taken → coming shape.rest shape.m shape.t ends taken link links ≡ coming shape.rest shape.m shape.t ends (taken - 1) (last + 1) links
        unfolding coming
        back-coming few =
            let fewer : length (take (taken - 1) links) ≡ taken - 1 = length-take-le (taken - 1) links (omega (arith, at.fewer, lent.room)) in
            ap (λ (ts : List ℕ). come ts link) parted
            ∙ come-back (ends_at ends) (usable_at shape.rest ends) identity shape.m shape.t (take (taken - 1) links) last link (omega arith)
            ∙ ap (λ (k : ℕ). come (take (taken - 1) links) k) (sym (add-one last))

        pub back-less : steps_from shape.m (taken - 1) (last + 1) links < steps_from shape.m taken link links
        unfolding steps_from
        back-less =
            subst⁻¹ (λ (ts : List ℕ). steps_to_come shape.m (take (taken - 1) links) (last + 1) < steps_to_come shape.m ts link) parted
            (rw (add-one last) (fewer-back shape.m (take (taken - 1) links) last link))

      -- enough links are left
      module _ (room : taken < shape.t) (enough : shape.t - taken ≤ shape.m - link) where
        pub link-known : link < shape.m
        link-known = omega (arith, at.inside)

        -- the test of a link, as the program makes it
        pub test-takes : (f : Forest) → f ≡ groups_after ends (take taken links) → {u : Bool} {new old : ℕ} → u ≡ usable_at shape.rest ends link
            → new ≡ label_of f.leader (ends_at ends link).a → old ≡ label_of f.leader (ends_at ends link).b
            → u && not (eqb new old) ≡ takes (ends_at ends) (usable_at shape.rest ends) (merge_all identity (map (ends_at ends) (take taken links))) link
        unfolding takes
        test-takes f is u p q =
            ap₂ (λ (a b : Bool). a && b) u
            (leaders-test f _ _ p q
            ∙ ap (λ (L : Labelling). crosses L (ends_at ends link)) (ap (λ (g : Forest). label_of g.leader) is ∙ groups-labels ends (take taken links) near))

        abbrev taking : Bool
        taking = takes (ends_at ends) (usable_at shape.rest ends) (merge_all identity (map (ends_at ends) (take taken links))) link

        -- the link is left
        module _ (no : taking ≡ false) where
          pub left-standing : Standing shape.m shape.t ends taken (link + 1) links history
          left-standing = record { fewer = at.fewer; inside = omega (arith, link-known); known = at.known; rows = at.rows }

          pub left-coming : coming shape.rest shape.m shape.t ends taken link links ≡ coming shape.rest shape.m shape.t ends taken (link + 1) links
          unfolding coming
          left-coming =
              come-left (ends_at ends) (usable_at shape.rest ends) identity shape.m shape.t (take taken links) link link-known (omega (arith, count)) no
              ∙ ap (come (take taken links)) (sym (add-one link))

          pub left_less : steps_from shape.m taken (link + 1) links < steps_from shape.m taken link links
          unfolding steps_from
          left_less = rw (add-one link) (fewer-left shape.m (take taken links) link link-known)

        -- the link is taken
        module _ (yes : taking ≡ true) where
          more : take (taken + 1) (set links taken link) ≡ take taken links ++ (link ∷ [])
          more = one_more links taken link (omega (arith, lent.room, room))

          pub more-coming : coming shape.rest shape.m shape.t ends taken link links ≡ coming shape.rest shape.m shape.t ends (taken + 1) (link + 1) (set links taken link)
          unfolding coming
          more-coming =
              come-taken (ends_at ends) (usable_at shape.rest ends) identity shape.m shape.t (take taken links) link link-known (omega (arith, count)) yes
              ∙ ap₂ come (sym more) (sym (add-one link))

          -- the groups with it, as the program joins them
          pub more-groups : {f f' : Forest} {new old : ℕ} → f ≡ groups_after ends (take taken links) → new ≡ label_of f.leader (ends_at ends link).a
              → old ≡ label_of f.leader (ends_at ends link).b → f' ≡ joined f new old → f' ≡ groups_after ends (take (taken + 1) (set links taken link))
          more-groups is p q e = joined-after ends (take taken links) near is link p q e ∙ ap (groups_after ends) (sym more)

          more-known : (c : ℕ) → c ∈ take (taken + 1) (set links taken link) → c < shape.m
          more-known c m = go (Memᴰ.append_cases (take taken links) (subst (λ (ts : List ℕ). c ∈ ts) more m))
            where
              go : (c ∈ take taken links) ⊎ (c ∈ link ∷ []) → c < shape.m
              go (inl k) = at.known c k
              go (inr k) = let e = Memᴰ.eq_of_singleton k in omega (arith, link-known)

          -- and makes a tree
          made : taken + 1 ≡ shape.t
              → Reached shape ends (coming shape.rest shape.m shape.t ends taken link links) true (taken + 1) (set links taken link) history
          unfolding ahead_from coming
          made full =
              let new = set links taken link in
              let whole : take shape.t new ≡ take taken links ++ (link ∷ []) = ap (λ (n : ℕ). take n new) (sym full) ∙ more in
              let behind : shape.t - 1 ≡ taken = omega arith in
              let kept : take taken new ≡ take taken links = take-set-le taken links taken link (omega arith) in
              let own : get_or new taken 0 ≡ link = get_or-set_same links taken link 0 (omega (arith, lent.room)) in
              let rest : later shape ends new ≡ come (take taken links) (suc link) =
              sym (later-coming shape ends new (omega arith))
              ∙ ap (λ (n : ℕ). coming shape.rest shape.m shape.t ends n (get_or new n 0 + 1) new) behind
              ∙ ap₂ (λ (ts : List ℕ) (c : ℕ). come ts (c + 1)) kept own
              ∙ ap (come (take taken links)) (add-one link) in
              record {
                trees = more-coming
                    ∙ ap (λ (ts : List ℕ). come ts (link + 1)) more
                    ∙ come-whole (ends_at ends) (usable_at shape.rest ends) identity shape.m shape.t (take taken links) link (link + 1)
                    (omega (arith, count))
                    ∙ ap₂ (λ (ts : List ℕ) (l : List (List ℕ)). ts ∷ l) (sym whole) (sym rest);
                whole = λ q. record {
                  all = full;
                  known = λ c m. more-known c (subst⁻¹ (λ (n : ℕ). c ∈ take n new) full m);
                  rows = subst⁻¹ (λ (n : ℕ). Recorded ends (take n new) history) behind (subst⁻¹ (λ (ts : List ℕ). Recorded ends ts history) kept at.rows);
                };
              }

          pub reached-whole : taken + 1 ≡ shape.t → {taken' : ℕ} {links' : List ℕ} {history' : List Forest} → links' ≡ set links taken link → history' ≡ history
              → taken' ≡ taken + 1 → Reached shape ends (coming shape.rest shape.m shape.t ends taken link links) true taken' links' history'
          reached-whole full e f g = rw (e, f, g) (made full)

          -- or is one of more, and the groups after it stand behind the others
          module _ (part : ¬ (taken + 1 ≡ shape.t)) {links' : List ℕ} {history' : List Forest} {f : Forest}
              (groups : f ≡ groups_after ends (take (taken + 1) (set links taken link)))
              (put : links' ≡ set links taken link) (put_groups : history' ≡ set history taken f) where
            pub taken-roomy : Roomy shape links' history'
            taken-roomy =
                rw (put, put_groups) (record {
                  room = omega (arith, lent.room, length-set links taken link);
                  rows = omega (arith, lent.rows, length-set history taken f);
                })

            pub taken-standing : Standing shape.m shape.t ends (taken + 1) (link + 1) links' history'
            taken-standing =
                let known : f ≡ groups_after ends (take taken links ++ (link ∷ [])) = groups ∙ ap (groups_after ends) more in
                let fits : length (take taken links) + 1 ≤ length history = omega (arith, count, lent.rows, room) in
                rw (put, put_groups) (record {
                  fewer = omega arith;
                  inside = omega (arith, link-known);
                  known = more-known;
                  rows = subst⁻¹ (λ (ts : List ℕ). Recorded ends ts (set history taken f)) more
                      (subst (λ (n : ℕ). Recorded ends (take taken links ++ (link ∷ [])) (set history n f)) count (recorded_more link at.rows fits known));
                })

          pub taken-less : steps_from shape.m (taken + 1) (link + 1) (set links taken link) < steps_from shape.m taken link links
          unfolding steps_from
          taken-less =
              subst⁻¹ (λ (ts : List ℕ). steps_to_come shape.m ts (link + 1) < steps_to_come shape.m (take taken links) link) more
              (rw (add-one link) (fewer-taken shape.m (take taken links) link link-known))
