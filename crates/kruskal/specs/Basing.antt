-- The loop that collects the links that are kept, with the groups after each of them, and stops once all stations that are to be joined are.
use Rattle.std.specs.Prelude.{ℕ, ◌+◌, ◌*◌, ◌≤◌, ◌<◌, true, false, ◌≡◌, refl, get_or, set, take, drop}
use mathlib.Core.List.{List, [], ◌∷◌, ◌++◌, append-nil, map}
use Rattle.std.proofs.Common.{⊎_elim, sym, ◌∙◌, subst, eq-or-lt_of_le, le_of_suc-le-suc, take_all, get_or-set_other, get_or-set_same, add-one, length-set, drop-cons, take-suc-set}
use Rattle.std.proofs.Math.Path.{ap, fun_ext}
use native.Mathlib.Omega.{arith}
use Rattle.std.proofs.Math.ListN.{length, length-append}
use Rattle.std.proofs.lemmas.List.{length-map, take-append-le}
use Rattle.std.proofs.Math.Seq.{length-take-le}
use Rattle.order.proofs.Lists.{get_or-mem, length-nil, map-mem, sublist-⊆}
use Rattle.order.specs.Perm as perm
use Rattle.order.proofs.Perm as perm_laws
use Rattle.spanning.specs.Labelling.{Edge, Labelling, crosses}
use Rattle.spanning.specs.LabelList.{label_of}
use Rattle.spanning.specs.Tree.{AllWithin, Forest as Ringless, Within, identity}
use Rattle.spanning.proofs.Count.{forest-few}
use Rattle.spanning.specs.Kruskal.{kruskal}
use Rattle.spanning.proofs.Kruskal.{greedy-forest, kruskal-greedy}
use Rattle.network.specs.Capacities.{sum_held}
use Rattle.network.specs.Yard.{ends_at, sum_at}
use Rattle.forest.specs.Groups.{Led, apart, apart-labels, apart-led, joined, joined-led, nobody}
use Rattle.forest.specs.History.{Near, groups-more, groups_after}
use Rattle.forest.specs.declared.Forest.{Forest}
use Rattle.kruskal.specs.Tree.{Usable}
use Rattle.kruskal.specs.Base.{Based, Joinable, Recorded, collect-end, collect-left, collect-start, collect-taken, collected}
use Rattle.kruskal.specs.Base.{kept, kept-sublist}
use Rattle.kruskal.specs.Grown.{kept-kruskal}

-- ---- no more links are kept than join the stations

module _ {ends links : List ℕ} {goal : ℕ} (j : Joinable ends links goal) where
  -- the links join stations
  pub joinable-near : Near ends links
  joinable-near e m = let w = j.within e m in (j.known (ends_at ends e).a w.0, j.known (ends_at ends e).b w.1)

  pub kept-few : length (kept ends apart links) ≤ goal
  kept-few =
      let ks = kept ends apart links in
      let same : ks ≡ kruskal (ends_at ends) identity links =
      kept-kruskal ends apart links apart-led joinable-near ∙ ap (λ (L : Labelling). kruskal (ends_at ends) L links) (fun_ext apart-labels) in
      let ringless : Ringless identity (map (ends_at ends) ks) = rw same (greedy-forest (ends_at ends) (kruskal-greedy (ends_at ends) identity links)) in
      let few = forest-few j.stations (omega (arith, j.size)) j.different (map (ends_at ends) ks) within ringless in
      omega (arith, j.size, length-map ks (ends_at ends))
    where
      within : AllWithin j.stations (map (ends_at ends) (kept ends apart links))
      within x m =
          let e = map-mem (ends_at ends) (kept ends apart links) x m in
          subst (λ (y : Edge). Within j.stations y) (sym e.2) (j.within e.0 (sublist-⊆ (kept-sublist ends apart links) e.0 e.1))

-- ---- one row more

module _ {ends l : List ℕ} {history : List Forest} (e : ℕ) {f : Forest} (R : Recorded ends l history) (room : length l + 1 ≤ length history)
    (new : f ≡ groups_after ends (l ++ (e ∷ []))) where
  recorded_more : Recorded ends (l ++ (e ∷ [])) (set history (length l) f)
  recorded_more =
      let more = length-append l (e ∷ []) in
      record {
        room = omega (arith, length-set history (length l) f);
        row = λ k h. ⊎_elim (own k) (earlier k) (eq-or-lt_of_le (le_of_suc-le-suc (let m : k < length l + 1 = omega arith in rw add-one at m)));
      }
    where
      earlier : (k : ℕ) → k < length l → get_or (set history (length l) f) k nobody ≡ groups_after ends (take (k + 1) (l ++ (e ∷ [])))
      earlier k h =
          get_or-set_other history (length l) k f nobody (λ q. omega arith)
          ∙ R.row k h
          ∙ ap (groups_after ends) (sym (take-append-le (k + 1) l (e ∷ []) (omega arith)))

      own : (k : ℕ) → k ≡ length l → get_or (set history (length l) f) k nobody ≡ groups_after ends (take (k + 1) (l ++ (e ∷ [])))
      own k h =
          rw (h, take_all (length l + 1) (l ++ (e ∷ [])) (omega (arith, length-append l (e ∷ []))), ← new)
          (get_or-set_same history (length l) f nobody (omega arith))

-- ---- the loop

module _ (ends sums links : List ℕ) where
  -- after `at` links: what was collected of them, and what will be of the others; its groups, sum and rows
  pub record Basing (f : Forest) (base : List ℕ) (history : List Forest) (count sum at : ℕ) : Type 0 where
    pub whole : collected ends links f base count at ≡ kept ends apart links
    pub led : Led f
    pub groups : f ≡ groups_after ends (take count base)
    pub total : sum ≡ perm.sum (sum_at sums) (take count base)
    pub light : sum ≤ count * sum_held
    pub rows : Recorded ends (take count base) history
    pub fewer : count ≤ at
    pub room : length links ≤ length base

  pub basing-start : {f : Forest} {base : List ℕ} {history : List Forest} → f ≡ apart → length links ≤ length base → Basing f base history 0 0 0
  unfolding groups_after
  basing-start e room =
      record {
        whole = rw e (collect-start ends links apart _);
        led = rw e apart-led;
        groups = e;
        total = refl;
        light = omega arith;
        rows = record { room = omega arith; row = λ k h. absurd (omega arith) };
        fewer = omega arith;
        room = room;
      }

  module _ {goal : ℕ} (j : Joinable ends links goal) {f : Forest} {base : List ℕ} {history : List Forest} {count sum at : ℕ} (b : Basing f base history count sum at) where
    -- the links collected, and those that will be, are at most goal
    few : at ≤ length links → count + length (kept ends f (drop at links)) ≤ goal
    unfolding collected
    few h =
        let fewer = b.fewer in
        let room = b.room in
        let own : length (take count base) ≡ count = length-take-le count base (omega arith) in
        let both = length-append (take count base) (kept ends f (drop at links)) in
        let all = ap length b.whole in
        omega (arith, kept-few j)

    module _ (h : at < length links) where
      -- where the next link is kept there is room for it
      pub taken-few : crosses (label_of f.leader) (ends_at ends (get_or links at 0)) ≡ true → count + 1 ≤ goal
      unfolding kept
      taken-few c = let all = few (omega arith) in let w = rw (drop-cons links at 0 h, c) at all in omega arith

      pub basing-taken : {f' : Forest} {history' : List Forest} → crosses (label_of f.leader) (ends_at ends (get_or links at 0)) ≡ true
          → f' ≡ joined f (ends_at ends (get_or links at 0)).a (ends_at ends (get_or links at 0)).b
          → goal ≤ length history → history' ≡ set history count f' → Usable sums (get_or links at 0)
          → Basing f' (set base count (get_or links at 0)) history' (count + 1) (sum + sum_at sums (get_or links at 0)) (at + 1)
      basing-taken {f'} {history'} c e space w u =
          let x = get_or links at 0 in
          let near = joinable-near j x (get_or-mem links at 0 h) in
          let fewer = b.fewer in
          let room = b.room in
          let light = b.light in
          let cheap = u.cheap in
          let goes = taken-few c in
          let own : length (take count base) ≡ count = length-take-le count base (omega arith) in
          let more : take (count + 1) (set base count x) ≡ take count base ++ (x ∷ []) = rw add-one (take-suc-set base count x (omega arith)) in
          let joins : f' ≡ groups_after ends (take count base ++ (x ∷ [])) =
          e ∙ ap (λ (g : Forest). joined g (ends_at ends x).a (ends_at ends x).b) b.groups ∙ sym (groups-more ends (take count base) x) in
          let rows = recorded_more x b.rows (omega arith) joins in
          record {
            whole = rw e (collect-taken ends links f base _ count at b.whole h (omega arith) c);
            led = rw e (joined-led f (ends_at ends x).a (ends_at ends x).b b.led near.0 near.1);
            groups = rw more joins;
            total = rw more (let t = b.total in omega (arith, perm_laws.sum-append (sum_at sums) (take count base) (x ∷ [])));
            light = omega arith;
            rows = rw (w, more) (rw own at rows);
            fewer = omega arith;
            room = omega (arith, length-set base count x);
          }

      pub basing-left : crosses (label_of f.leader) (ends_at ends (get_or links at 0)) ≡ false → Basing f base history count sum (at + 1)
      basing-left c =
          let fewer = b.fewer in
          record {
            whole = collect-left ends links f base _ count at b.whole h c;
            led = b.led;
            groups = b.groups;
            total = b.total;
            light = b.light;
            rows = b.rows;
            fewer = omega arith;
            room = b.room;
          }

    -- the end, by what was collected
    ended : at ≤ length links → take count base ≡ kept ends apart links → Based ends sums links goal base history (record { count = count; sum = sum })
    ended h e =
        let fewer = b.fewer in
        let room = b.room in
        record {
          links = e;
          inside = omega arith;
          few = omega (arith, few h);
          total = rw (← e) b.total;
          recorded = rw (← e) b.rows;
        }

    -- all links are seen
    pub basing-end : at ≡ length links → Based ends sums links goal base history (record { count = count; sum = sum })
    basing-end h = ended (omega arith) (collect-end ends links f base _ count at b.whole (omega arith))

    -- all are joined: nothing more is kept
    pub basing-full : at ≤ length links → count ≡ goal → Based ends sums links goal base history (record { count = count; sum = sum })
    unfolding collected
    basing-full h full =
        let none : kept ends f (drop at links) ≡ [] = length-nil (kept ends f (drop at links)) (omega (arith, few h)) in
        ended h (sym (append-nil (take count base)) ∙ rw none at b.whole)
