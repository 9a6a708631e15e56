-- The walk as its loop does it: what the marks and the records are when the first n positions have been visited.
use Rattle.std.specs.Prelude.{Bool, true, false, ◌||◌, List, [], ◌∷◌, ◌⊎◌, ◌≡◌, refl, ℕ, ◌+◌, ◌*◌, ◌≤◌, ◌<◌, leb, ℤ, pos, drop, get_or, length, replicate}
use mathlib.Core.List.Memᴰ
use Rattle.std.proofs.Common.{inl, inr, sym, ap, ◌∙◌, subst, arith, length-append, leb-true}
use Rattle.std.proofs.Math.Option.{Option, none, some}
use Rattle.std.proofs.Math.Path.{subst⁻¹}
use Rattle.std.proofs.lemmas.List.{get_or-replicate}
use Rattle.order.specs.Test.{by-test}
use Rattle.order.specs.Lists.{◌∈◌}
use Rattle.order.proofs.Lists.{any_snoc}
use Rattle.frontier.specs.Frontier.{Entry, answers, collect, covered, covers, solve}
use Rattle.frontier.specs.Plans.{Front}
use Rattle.frontier.proofs.Plans.{collect-front, collect-member}
use Rattle.frontier.proofs.Walk.{positions-length}
use Rattle.planning.proofs.Grid.{walk-lists}
use Rattle.network.specs.Capacities.{ceilings_held}
use Rattle.network.proofs.Resting.{working-few}
use Rattle.network.specs.Survey.{narrow_slots}
use Rattle.network.proofs.Tabulate.{tabulate-length}
use Rattle.network.specs.Yard.{best, ceiling_costs, graph, tree_size, yard}
use Rattle.network.specs.Walk.{plans, position_count, positions, solved_count, values}
use Rattle.network.specs.PlanList.{costs_of, head_size, plan_size, plan_slots}
use Rattle.network.specs.NetworkFine.{NetworkFine}
use Rattle.network.proofs.NetworkFine.{graph-sound, slots-few}
use Rattle.network.specs.Network.{Network}
use Rattle.planlist_frontier.specs.Stored.{Holds, Padded, absent, costs-absent, costs-padded, holds-inserted, holds-level, holds-none, holds-rise}
use Rattle.walk_visit.specs.Visit.{best_at}
use Rattle.walk_visit.specs.Visited.{Prepared, Visited, records_of, slots_of, take_record}
use Rattle.walk.specs.Entries.{answered, collect-more, entries-all, entries-fewer, entries_none}
use Rattle.walk.specs.Entries.{entries-skip, entries-solve, entries_at, no_lower, take_answer}

or_comm : (a b : Bool) → a || b ≡ b || a
or_comm true true = refl
or_comm true false = refl
or_comm false true = refl
or_comm false false = refl

-- ---- what holds between positions

module _ (net : Network) where
  -- the first `count` records behind the head's place are those of the plans l
  abbrev pub Recorded : ℕ → List ℕ → List (List ℕ) → Type 0
  Recorded count bs l = Holds (yard net) (slots_of net) (costs_of net) (λ ts. ts) (absent net) (plan_size (slots_of net) (tree_size net)) count (drop head_size bs) l

  padded : NetworkFine net → (ts : List ℕ) → Padded (yard net) (slots_of net) (costs_of net) (λ ts. ts) (absent net) ts
  padded fine ts = record {
    values = costs-padded net ts (omega (arith, fine.rank-count, fine.few-ceilings));
    held = tabulate-length (λ j. get_or (ceiling_costs net ts) j (pos 0)) ceilings_held;
  }

  -- a record has room for each cost of a tree
  slots-hold : NetworkFine net → net.p ≤ slots_of net
  unfolding plan_slots
  slots-hold fine =
      by-test (leb net.p narrow_slots)
      (λ e. rw e (leb-true net.p narrow_slots e))
      (λ e. rw e fine.few-ceilings)

  -- the marks, the records and the counts when the entries es have been solved
  pub record Reached (es : List (Entry ℤ (List ℕ))) (ms : List Bool) (bs : List ℕ) (count done : ℕ) : Type 0 where
    pub marks : (x : ℕ) → x < position_count net → get_or ms x false ≡ covered (yard net) es (get_or (positions net) x [])
    pub records : Recorded count bs (collect (yard net) [] (answers (yard net) es))
    pub counted : done ≡ length es

  -- when the first n positions have been visited
  abbrev pub Progress : ℕ → List Bool → List ℕ → ℕ → ℕ → Type 0
  Progress n = Reached (entries_at (yard net) n)

  pub start : (size : ℕ) (bs : List ℕ) → position_count net ≤ size → Progress 0 (replicate size false) bs 0 0
  start size bs h =
      subst (λ (es : List (Entry ℤ (List ℕ))). Reached es (replicate size false) bs 0 0) (sym (entries_none (yard net)))
      (record {
        marks = λ x g. get_or-replicate size x false false (omega arith);
        records = holds-none (yard net) (slots_of net) (costs_of net) (λ ts. ts) (absent net) (plan_size (slots_of net) (tree_size net)) (drop head_size bs);
        counted = refl;
      })

  module _ (n : ℕ) (h : n < position_count net) {ms : List Bool} {bs : List ℕ} {count done : ℕ} (p : Progress n ms bs count done) where
    inside : n < length (positions net)
    inside = omega (arith, positions-length (values net))

    -- Its plan can be taken in, where there is room. Of two plans found, one that is at most the other fits where the other is best, so its sum is not
    -- the lower one.
    pub prepared : NetworkFine net → head_size + (count + 1) * plan_size (slots_of net) (tree_size net) ≤ length bs → Prepared net n bs count
    prepared fine room = record {
      few = omega (arith, slots-few net.p);
      few-links = omega (arith, fine.few-stations, working-few net.n net.rest);
      room = room;
      rise = holds-rise (yard net) (slots_of net) (costs_of net) (λ ts. ts) (absent net) refl plans p.records front.rising;
      level = λ ts e.
          holds-level (yard net) (slots_of net) (costs_of net) (λ ts. ts) (absent net) refl plans p.records ts (padded fine ts)
          (λ s m h. let w = best-at s m in no_lower (yard net) (get_or (positions net) n []) w.0 s ts e w.1 h)
          (λ s m h. let w = best-at s m in no_lower (yard net) w.0 (get_or (positions net) n []) ts s w.1 e h);
      absent = λ ts e j h.
          costs-absent net ts j (omega (arith, fine.rank-count, fine.few-ceilings)) (omega (arith, fine.rank-count, slots-hold fine));
    }
      where
        found : List (List ℕ)
        found = answers (yard net) (entries_at (yard net) n)

        plans : List (List ℕ)
        plans = collect (yard net) [] found

        front : Front (yard net) plans
        front = collect-front (yard net) found [] (record { rising = tt; antichain = λ a b m k. absurd (Memᴰ.not-nil m) })

        best-at : (s : List ℕ) → s ∈ plans → (b : List ℤ) × (best net b ≡ some s)
        best-at s m = go (collect-member (yard net) found [] m)
          where
            go : (s ∈ []) ⊎ (s ∈ found) → (b : List ℤ) × (best net b ≡ some s)
            go (inl k) = absurd (Memᴰ.not-nil k)
            go (inr k) = answered (yard net) n k

    -- a marked position is skipped
    pub skip : get_or ms n false ≡ true → Progress (n + 1) ms bs count done
    skip e =
        let seen = sym (p.marks n h) ∙ e in
        subst (λ (es : List (Entry ℤ (List ℕ))). Reached es ms bs count done) (sym (entries-skip (yard net) n inside seen)) p

    module _ (e : get_or ms n false ≡ false) where
      unseen : covered (yard net) (entries_at (yard net) n) (get_or (positions net) n []) ≡ false
      unseen = sym (p.marks n h) ∙ e

      -- with no more to spend there is no list
      pub spent : done < solved_count net
      spent = omega (arith, p.counted, entries-fewer (yard net) n inside unseen)

      -- an unmarked one is solved
      pub step : NetworkFine net → {ms' : List Bool} {bs' : List ℕ} {count' : ℕ} → Visited net n ms ms' bs bs' count count' → Progress (n + 1) ms' bs' count' (done + 1)
      step fine {ms'} {bs'} {count'} v =
          let new = solve (yard net) (get_or (positions net) n []) in
          let es = entries_at (yard net) n in
          subst (λ (l : List (Entry ℤ (List ℕ))). Reached l ms' bs' count' (done + 1)) (sym (entries-solve (yard net) n inside unseen))
          (record {
            marks = λ x g. v.marks x g ∙ ap (λ (b : Bool). covers (yard net) new (get_or (positions net) x []) || b) (p.marks x g)
                ∙ or_comm (covers (yard net) new (get_or (positions net) x [])) (covered (yard net) es (get_or (positions net) x []))
                ∙ sym (any_snoc (λ z. covers (yard net) z (get_or (positions net) x [])) es new);
            records = subst⁻¹ (Recorded count' bs') (collect-more (yard net) es new) (taken new.answer refl v.records);
            counted = omega (arith, p.counted, length-append es (new ∷ []));
          })
        where
          plans : List (List ℕ)
          plans = collect (yard net) [] (answers (yard net) (entries_at (yard net) n))

          -- the answer's plan among those recorded
          taken : (o : Option (List ℕ)) → best_at net n ≡ o
              → records_of net count' bs' ≡ take_record net o (records_of net count bs) → Recorded count' bs' (take_answer (yard net) o plans)
          taken none b e = record { records-are = e ∙ p.records.records-are; stored = p.records.stored }
          taken (some ts) b e =
              holds-inserted (yard net) (slots_of net) (costs_of net) (λ ts. ts) (absent net) refl ts plans p.records
              (record { writable = v.writable ts b; padded = padded fine ts }) e

  -- at the end all positions are visited: the count is the walk's, and the promised plans are recorded
  pub finish : NetworkFine net → (n : ℕ) → position_count net ≤ n → {ms : List Bool} {bs : List ℕ} {count done : ℕ} → Progress n ms bs count done
      → (done ≡ solved_count net) × Recorded count bs (plans net)
  finish fine n h {ms} {bs} {count} {done} p =
      let all = entries-all (yard net) n (omega (arith, positions-length (values net))) in
      let r = subst (λ (es : List (Entry ℤ (List ℕ))). Reached es ms bs count done) all p in
      (r.counted, subst (Recorded count bs) (walk-lists (graph net) (graph-sound net fine)) r.records)
