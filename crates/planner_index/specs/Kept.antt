-- What callers rely on: replies and bytes that are those of the definitions keep the promises.
use Rattle.std.specs.Prelude.{Bool, true, false, cond, ◌⊎◌, ◌≡◌, ℕ, ◌≤◌, ◌<◌, ltb, ℤ, pos, get_or, length}
use mathlib.Core.List.Memᴰ.{head as here}
use mathlib.Core.List.Memᴰ.{tail as there}
use mathlib.Core.List.{List, [], ◌∷◌, ◌++◌}
use Rattle.std.proofs.Common.{inl, inr, ⊎_elim, ◌∙◌, arith, le-ltb, lt-ltb, ltb-false, ltb-true}
use Rattle.std.proofs.Math.Option.{Option, none, some}
use Rattle.std.proofs.Math.Path.{refl, sym, ap, subst⁻¹}
use Rattle.std.proofs.Math.ListN.{drop, length-append, take-append-drop}
use Rattle.std.specs.Int.Signed.{mag}
use Rattle.order.specs.Test.{by-test, clash}
use Rattle.order.proofs.Test.{both, fails}
use Rattle.order.specs.Lists.{◌∈◌, all}
use Rattle.order.specs.Order.{dictionary, orderℕ}
use Rattle.order.proofs.Order.{equal→≡}
use Rattle.order.proofs.Sorted.{numbers-mem}
use Rattle.network.specs.Walk.{plans}
use Rattle.network.specs.Survey.{network_of}
use Rattle.network.specs.Calls.{Reply, status}
use Rattle.network.specs.Fetching.{damaged, fetch_number, head_count, is_marked}
use Rattle.network.specs.Indexing.{cheapest, declined, entries_from, found_plan, index_after, index_in, index_need, index_of}
use Rattle.network.specs.Indexing.{index_checked, is_index, looked_up, lookup_reply, plan_numbers, says_found, unfit}
use Rattle.network.specs.IndexPromise.{IndexPromised, LookupPromised, Ordered}
use Rattle.network.specs.Promise.{Archived}
use Rattle.std.specs.Prelude.{Ok, is_ok}
use Rattle.network.proofs.CheckedLaws.{status-fine}
use Rattle.network.specs.Checked.{Checked, Found, no_refusal}
use Rattle.network.specs.declared.refusals.Rule.TheVariants.{NoSuchPlan}
use Rattle.planlist_fetching.specs.Found.{number-damaged, number-marked}
use Rattle.index_keys.specs.Order.{AllBytes}
use Rattle.index_building.specs.Entries.{entry_length, entry_bytes}
use Rattle.index_building.specs.Replies.{built-fits, built-short, built-unfit, fit-intact}
use Rattle.index_lookup.specs.Finding.{looked-held, looked-other, looked-short, looked-unfit}
use Rattle.planner_fetch.specs.Archive.{number-kept}
use Rattle.planner_index.specs.Held.{entries-bytes}
use Rattle.planner_index.specs.Index.{index_below, index-held, index_in_lem, index-length, index-once, index-rising}
use Rattle.planner_index.specs.Cheapest.{cheapest-none, cheapest-some}

-- ---- a list that a list call made is fit

-- each plan has its mark, where fetching finds it
all-marked : (list : List ℕ) (l : List ℕ) → ((r : ℕ) → r ∈ l → is_marked list r ≡ true) → all (is_marked list) l ≡ true
all-marked list [] h = refl
all-marked list (r ∷ l) h = both (h r (here refl)) (all-marked list l (λ x m. h x (there m)))

fetched-fit : (list : List ℕ) (n : ℕ) → ((r : ℕ) → fetch_number list r ≡ cond (ltb r n) 0 13) → unfit list ≡ false
unfolding unfit
fetched-fit list n h =
    rw (intact, all-marked list (plan_numbers list) (λ r m. let w = numbers-mem (head_count list) 0 r m in marked r (omega arith)))
  where
    -- 13 is no number of a damaged list, and says that there are no more plans
    past : fetch_number list n ≡ 13
    past = h n ∙ ap (λ (t : Bool). cond t 0 13) (le-ltb n n (omega arith))

    intact : damaged list ≡ false
    intact = fails (damaged list) (λ d. let z = sym (number-damaged list n d) ∙ past in absurd (omega arith))

    few : head_count list ≤ n
    few =
        by-test (ltb n (head_count list))
        (λ t. let z = sym (number-marked list n intact (ltb-true n (head_count list) t) refl) ∙ past in absurd (no-plan (is_marked list n) z))
        (λ t. ltb-false n (head_count list) t)
      where
        no-plan : (b : Bool) → ◌≡◌ {A = ℕ} (cond b 0 12) 13 → ⊥
        no-plan true e = omega arith
        no-plan false e = omega arith

    -- 0 says that a plan has its mark
    marked : (r : ℕ) → r < head_count list → is_marked list r ≡ true
    marked r l =
        by-test (is_marked list r) (λ t. t)
        (λ t. let z = sym (number-marked list r intact l t) ∙ h r ∙ ap (λ (b : Bool). cond b 0 13) (lt-ltb r n (omega (arith, few))) in absurd (omega arith))

archived-fit : (s list : List ℕ) → Archived s list → unfit list ≡ false
archived-fit s list a = fetched-fit list (length (plans (network_of s))) (λ r. (number-kept list r refl).found s a)

-- ---- building

-- by the two tests of building
data Case (list : List ℕ) (size : ℕ) : Type 0 where
  unfit-case : unfit list ≡ true → Case list size
  short-case : unfit list ≡ false → size < index_need list → Case list size
  fits-case : unfit list ≡ false → index_need list ≤ size → Case list size

cases : (list : List ℕ) (size : ℕ) → Case list size
cases list size =
    by-test (unfit list) unfit-case
    (λ e. by-test (ltb size (index_need list))
    (λ t. short-case e (ltb-true size (index_need list) t))
    (λ t. fits-case e (ltb-false size (index_need list) t)))

module _ (list buffer : List ℕ) where
  -- the entries of the index are in order
  in_order : unfit list ≡ false → Ordered list (entries_from (head_count list) 0 (index_in list buffer))
  in_order e =
      subst⁻¹ (Ordered list) (index-held list (fit-intact list e) buffer)
      (record { once = index-once list; only = λ r m. (index_below list).below r m; rising = index-rising list })

  -- an index has its bytes
  index-long : index_need list ≤ length (index_in list buffer)
  unfolding index_in
  index-long = omega (arith, length-append (entry_bytes (index_of list)) (drop (index_need list) buffer), entry_length (index_of list), index-length list)

  pub index-promised : {r : Checked} {left : List ℕ} → r ≡ index_checked list (length buffer) → left ≡ index_after list buffer
      → IndexPromised list buffer (status r) left
  unfolding status
  index-promised {r} {left} e f =
      record {
        ordered = λ z. go (status-fine r z) (cases list (length buffer));
        succeeds = λ s a room. ap status (e ∙ sym (built-fits list buffer (archived-fit s list a) room refl).0);
      }
    where
      go : r ≡ no_refusal → Case list (length buffer) → Ordered list (entries_from (head_count list) 0 left)
      go z (unfit-case u) = clash refl (ap is_ok (sym z ∙ e ∙ sym (built-unfit list buffer u).0))
      go z (short-case u h) = clash refl (ap is_ok (sym z ∙ e ∙ sym (built-short list buffer u h).0))
      go z (fits-case u h) =
          subst⁻¹ (λ (l : List ℕ). Ordered list (entries_from (head_count list) 0 l)) (f ∙ sym (built-fits list buffer u h refl).1) (in_order u)

-- ---- a lookup

plan-zero : (r : ℕ) → (says_found (Ok r)).number ≡ 0
unfolding says_found
plan-zero r = refl

none-thirteen : (says_found (declined NoSuchPlan)).number ≡ 13
unfolding says_found
none-thirteen = refl

missed : found_plan none ≡ declined NoSuchPlan
unfolding found_plan
missed = refl

found-one : (r : ℕ) → found_plan (some r) ≡ Ok r
unfolding found_plan
found-one r = refl

module _ (list index : List ℕ) (y : ℤ) where
  -- the number of the reply
  abbrev number : ℕ
  number = (says_found (looked_up list index y)).number

  -- a reply that is a plan or 13 comes from the cheapest plan, by the list's own index
  record Answered : Type 0 where
    fit : unfit list ≡ false
    room : index_need list ≤ length index
    held : is_index list index ≡ true
    found : looked_up list index y ≡ found_plan (cheapest list y)

  numbered : {f : Found} → f ≡ looked_up list index y → (says_found f).number ≡ number
  numbered e = ap (λ (f : Found). (says_found f).number) e

  answered : ¬ (number ≡ 12) → ¬ (number ≡ 16) → Answered
  unfolding says_found
  answered a b = go (cases list (length index))
    where
      go : Case list (length index) → Answered
      go (unfit-case u) = absurd (a (sym (numbered (looked-unfit list index y u))))
      go (short-case u h) = absurd (b (sym (numbered (looked-short list index y u h))))
      go (fits-case u h) =
          by-test (is_index list index)
          (λ e. record { fit = u; room = h; held = e; found = sym (looked-held list index y u h e) })
          (λ e. absurd (a (sym (numbered (looked-other list index y u h e)))))

  by_number : (n : ℕ) → number ≡ n → ¬ (n ≡ 12) → ¬ (n ≡ 16) → Answered
  by_number n e a b = answered (λ z. a (sym e ∙ z)) (λ z. b (sym e ∙ z))

  plan-cheapest : (o : Option ℕ) (r : ℕ) → says_found (found_plan o) ≡ says_found (Ok r) → o ≡ some r
  unfolding found_plan says_found
  plan-cheapest none r e = let z = ap (λ (x : Reply). x.number) e in absurd (omega arith)
  plan-cheapest (some q) r e = ap some (ap (λ (x : Reply). mag (get_or x.values 0 (pos 0))) e)

  none-cheapest : (o : Option ℕ) → says_found (found_plan o) ≡ says_found (declined NoSuchPlan) → o ≡ none
  unfolding found_plan says_found
  none-cheapest none e = refl
  none-cheapest (some q) e = let z = ap (λ (x : Reply). x.number) e in absurd (omega arith)

  -- building into the buffer of an index that is the list's own leaves it
  own-index : AllBytes index → Answered → index_after list index ≡ index
  unfolding index_in is_index
  own-index bytes a =
      let own = equal→≡ (dictionary orderℕ) (entries_from (head_count list) 0 index) (index_of list) a.held in
      sym (built-fits list index a.fit a.room refl).1
      ∙ ap (λ (l : List ℕ). l ++ drop (index_need list) index) (ap entry_bytes (sym own) ∙ entries-bytes (head_count list) 0 index bytes (omega (arith, a.room)))
      ∙ take-append-drop (index_need list) index

  -- number 0 is that of a plan, and 13 that no plan meets the value
  pub reply-plan : (lookup_reply list index y).number ≡ 0 → (r : ℕ) × (lookup_reply list index y ≡ says_found (Ok r))
  unfolding lookup_reply
  reply-plan e = go (cheapest list y) (by_number 0 e (λ z. omega arith) (λ z. omega arith)).found
    where
      go : (o : Option ℕ) → looked_up list index y ≡ found_plan o → (r : ℕ) × (lookup_reply list index y ≡ says_found (Ok r))
      go none q = let z = sym e ∙ ap (λ (f : Found). (says_found f).number) (q ∙ missed) ∙ none-thirteen in absurd (omega arith)
      go (some r) q = (r, ap says_found (q ∙ found-one r))

  pub reply-thirteen : (lookup_reply list index y).number ≡ 13 → lookup_reply list index y ≡ says_found (declined NoSuchPlan)
  unfolding lookup_reply
  reply-thirteen e = go (cheapest list y) (by_number 13 e (λ z. omega arith) (λ z. omega arith)).found
    where
      go : (o : Option ℕ) → looked_up list index y ≡ found_plan o → lookup_reply list index y ≡ says_found (declined NoSuchPlan)
      go none q = ap says_found (q ∙ missed)
      go (some r) q = let z = sym e ∙ ap (λ (f : Found). (says_found f).number) (q ∙ found-one r) ∙ plan-zero r in absurd (omega arith)

  -- what was found says the reply
  pub says-looked : {found : Found} → found ≡ looked_up list index y → says_found found ≡ lookup_reply list index y
  unfolding lookup_reply
  says-looked e = ap says_found e

  pub lookup-promised : AllBytes index → {reply : Reply} → reply ≡ lookup_reply list index y → LookupPromised list index y reply
  unfolding lookup_reply
  lookup-promised bytes {reply} e =
      record {
        cheapest = λ r q.
            let a = by_number 0 (plan-number r q) (λ z. omega arith) (λ z. omega arith) in
            cheapest-some list y r (plan-cheapest (cheapest list y) r (ap says_found (sym a.found) ∙ sym e ∙ q));
        none = λ q.
            let a = by_number 13 (none_number q) (λ z. omega arith) (λ z. omega arith) in
            cheapest-none list y (none-cheapest (cheapest list y) (ap says_found (sym a.found) ∙ sym e ∙ q));
        own = λ w. own-index bytes (⊎_elim
            (λ (z : reply.number ≡ 0). by_number 0 (sym same ∙ z) (λ k. omega arith) (λ k. omega arith))
            (λ (z : reply.number ≡ 13). by_number 13 (sym same ∙ z) (λ k. omega arith) (λ k. omega arith))
            w);
        answers = λ s buffer a room made. go s buffer a room made (cheapest list y) refl;
      }
    where
      same : reply.number ≡ number
      same = ap (λ (x : Reply). x.number) e

      plan-number : (r : ℕ) → reply ≡ says_found (Ok r) → number ≡ 0
      plan-number r q = sym same ∙ ap (λ (x : Reply). x.number) q ∙ plan-zero r

      none_number : reply ≡ says_found (declined NoSuchPlan) → number ≡ 13
      none_number q = sym same ∙ ap (λ (x : Reply). x.number) q ∙ none-thirteen

      go : (s buffer : List ℕ) → Archived s list → index_need list ≤ length buffer → index ≡ index_after list buffer → (o : Option ℕ) → cheapest list y ≡ o
          → ((r : ℕ) × (reply ≡ says_found (Ok r))) ⊎ (reply ≡ says_found (declined NoSuchPlan))
      go s buffer a room made o q =
          let fit = archived-fit s list a in
          let is : index ≡ index_in list buffer = made ∙ sym (built-fits list buffer fit room refl).1 in
          let held : is_index list index ≡ true = ap (is_index list) is ∙ index_in_lem list (fit-intact list fit) buffer in
          let long : index_need list ≤ length index = omega (arith, ap length is, index-long list buffer) in
          answer o (e ∙ ap says_found (sym (looked-held list index y fit long held) ∙ ap found_plan q))
        where
          answer : (o : Option ℕ) → reply ≡ says_found (found_plan o) → ((r : ℕ) × (reply ≡ says_found (Ok r))) ⊎ (reply ≡ says_found (declined NoSuchPlan))
          answer none z = inr (z ∙ ap says_found missed)
          answer (some r) z = inl (r, z ∙ ap says_found (found-one r))
