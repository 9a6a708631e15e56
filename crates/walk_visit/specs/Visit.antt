-- One position of the walk, over the ceilings that there are: what it asks, and that what it marks is what the answer settles.
use Rattle.std.specs.Prelude.{Bool, true, ◌≡◌, ℤ, pos, drop, get_or, length, take}
use mathlib.Core.List.{List, []}
use Rattle.std.proofs.Math.Option.{Option, none, some}
use Rattle.std.proofs.Math.Path.{refl, ap₂, subst}
use Rattle.std.proofs.Common.{sym, ap, ◌∙◌, arith, take_at}
use Prim.Native.Nat.{ℕ, ◌*◌, ◌≤◌, ◌<◌}
use Rattle.order.specs.Order.{orderℕ, orderℤ}
use Rattle.frontier.proofs.Best.{best-some}
use Rattle.frontier.specs.Dominance.{le_all}
use Rattle.frontier.specs.Frontier.{Picks}
use Rattle.frontier.proofs.Frontier.{picks-length}
use Rattle.frontier.specs.Places as by
use Rattle.frontier.specs.Places.{AllFalling, InRange, pick}
use Rattle.frontier.proofs.Places.{places-number, places-range}
use Rattle.planning.specs.Graph.{Sound}
use Rattle.planning.proofs.Grid.{all-fall, on-grid}
use Rattle.network.specs.Yard.{best, ceiling_costs, graph, yard}
use Rattle.network.specs.Walk.{position_count, positions, values}
use Rattle.network.specs.PlanList.{costs_of}
use Rattle.network.specs.NetworkFine.{NetworkFine}
use Rattle.network.proofs.NetworkFine.{graph-sound}
use Rattle.network.specs.Network.{Network}
use Rattle.network.specs.Shaped.{Plannable, net_of}
use Rattle.network.specs.Checked.{Answer}
use Rattle.network.specs.declared.Shape.{Shape}
use Rattle.planlist_frontier.specs.Stored.{absent, costs-padded}
use Rattle.solver.specs.Question.{answer_of}
use Rattle.marking.specs.Place.{places-of, places_of}
use Rattle.marking.specs.Paint.{paint}
use Rattle.marking.specs.Box.{sides}
use Rattle.marking.specs.Settle.{Settled, lasts, lasts-le, lasts-range, own-later, position_at, settled-none, settled-some}
use Rattle.marking.specs.Sides.{strides}
use Rattle.marking.specs.declared.mark.Side.{Side}
use Rattle.marking.specs.Digits.{Steps, digits_by}
use Rattle.marking.specs.Gridded.{Gridded, grid-places, grid-steps, value-count}
use Rattle.marking.specs.declared.grid.Grid.{Grid}
use Rattle.walk_visit.specs.Found.{Within, bounds_at, last_sides, own_sides}
use Rattle.walk_visit.specs.Boxes.{bounds-are, box-inside, grid-count, grid-length, grid_sides, last-sides, own-sides, range_at, range_length}
use Rattle.walk_visit.specs.Position.{Locatable, places_at}
use Rattle.walk_visit.specs.Answered.{Reaches, settled_by, sides_by}

-- the best tree at position n
abbrev pub best_at : Network → ℕ → Option (List ℕ)
best_at net n = best net (get_or (positions net) n [])

-- ---- the last places that an answer settles

module _ (net : Network) (sound : Sound (graph net)) (n : ℕ) (h : n < position_count net) where
  abbrev here : List ℕ
  here = by.places (values net) n

  from : InRange here (values net)
  from = places-range (values net) n h

  falls : AllFalling orderℤ (values net)
  falls = all-fall (graph net) 0 net.k

  -- those of a tree's own costs, or the last of all
  abbrev last_places : Option (List ℕ) → List ℕ
  last_places none = lasts (values net)
  last_places (some ts) = places_of (ceiling_costs net ts) (values net)

  -- the costs of the best tree are among the values, and at most those of the position
  module _ (ts : List ℕ) (found : best_at net n ≡ some ts) where
    pub own-picks : Picks (ceiling_costs net ts) (values net)
    own-picks = on-grid (graph net) sound ts (best-some (yard net) (get_or (positions net) n []) ts found).member

    own_below : le_all orderℤ (ceiling_costs net ts) (pick (pos 0) here (values net)) ≡ true
    own_below =
        ap (le_all orderℤ (ceiling_costs net ts)) (sym (position_at (yard net) (pos 0) n h)) ∙ (best-some (yard net) (get_or (positions net) n []) ts found).passes

  -- they are in range, no earlier than the position's, and the box through them is what the answer settles
  record LastPlaces (o : Option (List ℕ)) : Type 0 where
    range : InRange (last_places o) (values net)
    later : le_all orderℕ here (last_places o) ≡ true
    marked : (ms : List Bool) → position_count net ≤ length ms → Settled (yard net) n o ms (paint (sides here (last_places o) (values net)) n ms)

  last-places : (o : Option (List ℕ)) → best_at net n ≡ o → LastPlaces o
  last-places none e = record { range = lasts-range from; later = lasts-le from; marked = settled-none (yard net) (pos 0) n h falls }
  last-places (some ts) e =
      let own = places-of (pos 0) (own-picks ts e) falls in
      record {
        range = own.0;
        later = own-later (yard net) (pos 0) n h falls own.0 ts own.1 e;
        marked = settled-some (yard net) (pos 0) n h falls own.0 ts own.1;
      }

-- ---- a network with its grid

module _ {shape : Shape} {ends sums : List ℕ} {costs array : List ℤ} {grid : Grid} (plannable : Plannable shape ends sums costs)
    (gridded : Gridded (values (net_of shape ends sums costs)) shape.m array grid) where
  abbrev net : Network
  net = net_of shape ends sums costs

  fine : NetworkFine net
  fine = plannable.fine

  -- one list of values for each ceiling
  pub ceiling-count : length (values net) ≡ shape.p
  ceiling-count = value-count net ∙ fine.rank-count

  grid-are : take shape.p grid.sides ≡ grid_sides (values net)
  grid-are = ap (λ (k : ℕ). take k grid.sides) (sym ceiling-count) ∙ gridded.sides

  -- Position n
  module _ (n : ℕ) (h : n < position_count net) where
    steps : Steps (strides (take shape.p grid.sides))
    steps = subst (λ (k : ℕ). Steps (strides (take k grid.sides))) ceiling-count (grid-steps gridded n h)

    -- Its places
    module _ {places : List ℕ} (found : places ≡ places_at shape grid n) where
      places-are : places ≡ by.places (values net) n
      places-are = found ∙ ap (λ (k : ℕ). digits_by (strides (take k grid.sides)) n) (sym ceiling-count) ∙ grid-places gridded n

      there : InRange places (values net)
      there = rw places-are (places-range (values net) n h)

      places-length : length places ≡ length (values net)
      places-length = range_length there

      within : Within shape.m array places
      within = record {
        room = omega (arith, gridded.room, ap (λ (k : ℕ). k * shape.m) places-length);
        low = λ i g. let k : i < length (values net) = omega (arith, places-length) in omega (arith, range_at there i k, gridded.few i k);
      }

      -- THE QUESTION: the values there are the position's
      pub asked : bounds_at shape.m array places ≡ get_or (positions net) n []
      asked = bounds-are gridded there ∙ ap (λ (is : List ℕ). pick (pos 0) is (values net)) places-are ∙ sym (position_at (yard net) (pos 0) n h)

      -- THE ANSWER a
      module _ {a : Answer} (answered : a ≡ answer_of net (best_at net n)) where
        sound : Sound (graph net)
        sound = graph-sound net fine

        -- a plan holds the costs of the ceilings that there are
        own-costs : (ts : List ℕ) → best_at net n ≡ some ts → take shape.p (costs_of net ts).y ≡ ceiling_costs net ts
        own-costs ts e =
            let few = fine.few-ceilings in
            ap (λ (v : List ℤ). take shape.p (drop 1 v)) (costs-padded net ts (omega (arith, fine.rank-count)))
            ∙ take_at (ceiling_costs net ts) (absent net) shape.p (picks-length (own-picks net sound n h ts e) ∙ ceiling-count)

        -- the sides of its box
        sides-are : sides_by shape array grid places a ≡ sides (by.places (values net) n) (last_places net sound n h (best_at net n)) (values net)
        unfolding sides_by answer_of
        sides-are = ap₂ (sides_by shape array grid) places-are answered ∙ go (best_at net n) refl
          where
            is : List ℕ
            is = by.places (values net) n

            go : (o : Option (List ℕ)) → best_at net n ≡ o → sides_by shape array grid is (answer_of net o) ≡ sides is (last_places net sound n h o) (values net)
            go none e = ap (λ (rs : List Side). last_sides rs is) grid-are ∙ last-sides (from net sound n h)
            go (some ts) e =
                ap₂ (λ (rs : List Side) (y : List ℤ). own_sides shape.m array rs is y) grid-are (own-costs ts e)
                ∙ own-sides gridded (from net sound n h) (own-picks net sound n h ts e) (falls net sound n h) (own_below net sound n h ts e)

        -- which lies inside the marks
        pub reaches : {size : ℕ} → position_count net ≤ size → Reaches shape array grid places n a size
        reaches {size} room =
            let last = last-places net sound n h (best_at net n) refl in
            let box = box-inside (from net sound n h) last.range last.later room in
            let many = grid-length (values net) in
            record {
              places-are = record {
                ceilings = omega (arith, gridded.ceilings, ceiling-count);
                held = gridded.held;
                placed = rw grid-are (record {
                  alike = places-length ∙ sym many;
                  low = λ i g. let k : i < length (values net) = omega (arith, many) in rw (grid-count (values net) i k) (range_at there i k);
                });
                parted = rw grid-are (record {
                  room = omega (arith, gridded.room, ap (λ (k : ℕ). k * shape.m) many);
                  few = λ i g. let k : i < length (values net) = omega (arith, many) in rw (grid-count (values net) i k) (gridded.few i k);
                });
              };
              inside = rw sides-are (rw (places-number (values net) n h) at box);
            }

        -- and the marks that it sets are what the answer settles
        pub settles : (ms : List Bool) → position_count net ≤ length ms → Settled (yard net) n (best_at net n) ms (settled_by shape array grid places n a ms)
        unfolding settled_by
        settles ms room =
            let last = last-places net sound n h (best_at net n) refl in
            subst (λ (rs : List Side). Settled (yard net) n (best_at net n) ms (paint rs n ms)) (sym sides-are) (last.marked ms room)

    -- its places and values can be found
    pub locatable : Locatable shape array grid n
    locatable =
        record {
          ceilings = omega (arith, gridded.ceilings, ceiling-count);
          held = gridded.held;
          steps = steps;
          within = within refl;
        }
