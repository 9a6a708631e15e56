-- The best tree, put together from what the search is given.
use Rattle.std.specs.Prelude.{Option, Some, None, take, ℕ, ◌<◌, Bool, true, cond, ◌≡◌, length}
use mathlib.Core.List.{List}
use Rattle.std.proofs.Math.Path.{refl, ap}
use Rattle.std.proofs.Common.{sym, ◌∙◌, arith, length-take-le}
use Rattle.order.specs.Test.{clash}
use Rattle.order.specs.Lists.{◌∈◌, filter}
use Rattle.order.proofs.Lists.{filter-among, sublist-⊆}
use Rattle.forest.specs.Groups.{apart}
use Rattle.forest.specs.declared.Forest.{Forest}
use Rattle.kruskal.specs.Base.{Based, Joinable, kept, kept-sublist}
use Rattle.kruskal.specs.Basing.{joinable-near}
use Rattle.forest.specs.History.{Near}
use Rattle.kruskal.specs.Grown.{flags_of}
use Rattle.kruskal.specs.Tree.{Columns}
use Rattle.kruskal.specs.declared.links.Base.{Base}
use Rattle.exceptions.specs.Patterns.{Patterned, normal}
use Rattle.exceptions.specs.Keep.{Exceptions, exceptions-cross, exceptions-sublist, kept-exceptions, kept_exceptions}
use Rattle.exceptions.specs.Select.{InOrder, sublist-in-order}
use Rattle.search_trials.specs.Marks.{Distinct}
use Rattle.search_trials.specs.Sets.{sets}
use Rattle.search_trials.specs.Search.{Best, best_of, nothing}
use Rattle.search_trials.specs.Stands.{best_by, links_by}
use Rattle.search_trials.specs.declared.best.Trial.{Trial}
use Rattle.search_trials.specs.BaseAlone.{Counted, alone-best, kept-base, lead_alone, trial_alone}
use Rattle.search_trials.specs.Trials.{Alone, Ready}
use Rattle.search.specs.Begun.{Tryable}
use Rattle.search.specs.Loops.{searched, trials-searched}

-- r and flags report the best tree b: its sum, if one was found, and then its links
pub record Reports (b : Best) (r : Option ℕ) (taken : List Bool) : Type 0 where
  pub sum : r ≡ cond b.found (Some b.sum) None
  pub links : b.found ≡ true → taken ≡ b.taken

-- ---- the exceptions that are kept of links in order

module _ (ends : List ℕ) {sums order ks patterns : List ℕ} (P : Patterned (length sums) ks patterns) (v : InOrder sums order) where
  pub kept-below : (x : ℕ) → x ∈ kept_exceptions ends patterns ks order → x < length sums
  kept-below x m = ((sublist-in-order sums (exceptions-sublist (length sums) ends ks patterns order P) v).walkable.usable x m).below

  pub kept-known : Exceptions ks patterns (kept_exceptions ends patterns ks order)
  kept-known = kept-exceptions (length sums) ends ks patterns order P (λ x m. (v.walkable.usable x m).below)

  -- each can be tried
  pub kept-tryable : {goal : ℕ} → Joinable ends order goal → Tryable ends sums (kept_exceptions ends patterns ks order)
  kept-tryable j =
      let among = exceptions-sublist (length sums) ends ks patterns order P in
      record {
        order = sublist-in-order sums among v;
        joining = λ e m. record {
          usable = v.walkable.usable e (sublist-⊆ among e m);
          within = joinable-near j e (sublist-⊆ among e m);
          joins = exceptions-cross ends patterns ks order e m;
        };
      }

-- ---- the base

-- the normal links are in order, and join the stations
module _ (patterns : List ℕ) {order : List ℕ} where
  pub normals-in-order : {sums : List ℕ} → InOrder sums order → InOrder sums (filter (normal patterns) order)
  normals-in-order {sums} v = sublist-in-order sums (filter-among (normal patterns) order) v

  pub normals-joinable : {ends : List ℕ} {goal : ℕ} → Joinable ends order goal → Joinable ends (filter (normal patterns) order) goal
  normals-joinable j =
      record {
        stations = j.stations;
        size = j.size;
        different = j.different;
        known = j.known;
        within = λ e m. j.within e (sublist-⊆ (filter-among (normal patterns) order) e m);
        held = j.held;
      }

-- it has so many links
base-size : {ends sums links : List ℕ} {goal : ℕ} {base : List ℕ} {history : List Forest} {b : Base} → Based ends sums links goal base history b
    → b.count ≡ length (kept ends apart links)
base-size {base = base} {b = b} based = sym (length-take-le b.count base based.inside) ∙ ap length based.links

module _ {ends sums links : List ℕ} {goal : ℕ} (columns : Columns ends sums) (v : InOrder sums links) (j : Joinable ends links goal) where
  -- the base is in order too
  pub base-in-order : InOrder sums (kept ends apart links)
  base-in-order = sublist-in-order sums (kept-sublist ends apart links) v

  base-near : Near ends (kept ends apart links)
  base-near e m = joinable-near j e (sublist-⊆ (kept-sublist ends apart links) e m)

  pub base-distinct : Distinct (kept ends apart links)
  base-distinct =
      record { apart = base-in-order.apart; below = λ e m. omega (arith, (base-in-order.walkable.usable e m).below, columns.sums-size) }

  -- the search stands on it
  pub base-ready : {base : List ℕ} {history : List Forest} {b : Base} (based : Based ends sums links goal base history b)
      → Ready ends sums (take b.count base) history
  base-ready based =
      rw based.links (record {
        columns = columns;
        walk = base-in-order.walkable;
        near = base-near;
        made = kept-base ends links;
        recorded = based.recorded;
      })

module _ {ends sums links : List ℕ} {goal : ℕ} {base : List ℕ} {history : List Forest} {b : Base} (based : Based ends sums links goal base history b) where
  pub base-counted : Counted sums (kept ends apart links) b
  base-counted = record { size = base-size based; total = based.total }

  pub base-trial : {t : Trial} → t ≡ trial_alone b → Alone sums (kept ends apart links) t
  unfolding trial_alone
  base-trial e = rw e (record { count = base-counted.size; sum = base-counted.total })

-- the best tree, from the base alone and the exceptions
module _ (ends sums : List ℕ) (goal : ℕ) (ks patterns order : List ℕ) {m : ℕ} (P : Patterned m ks patterns) where
  -- the base
  abbrev base_of : List ℕ
  base_of = kept ends apart (filter (normal patterns) order)

  pub assembled : {base : List ℕ} {history : List Forest} {b : Base} {c : Option Trial} (r : Option Trial) → Based ends sums (filter (normal patterns) order) goal base history b
      → c ≡ lead_alone b goal
      → best_by base_of r ≡ searched ends sums goal ks patterns base_of (best_by base_of c) (sets (kept_exceptions ends patterns ks order))
      → best_by base_of r ≡ best_of ends sums goal ks patterns order
  unfolding best_of searched
  assembled {b = b} r based e q =
      let alone = alone-best ends sums base_of b (kept-base ends (filter (normal patterns) order)) (base-counted based) goal ks patterns P in
      let first = ap (best_by base_of) e ∙ alone in
      trials-searched ends sums goal ks patterns base_of nothing _ _ (kept_exceptions ends patterns ks order) first q

-- what the lead says of the best tree
module _ (base : List ℕ) {b : Best} {c : Option Trial} (e : best_by base c ≡ b) where
  pub found-reports : {t : Trial} {taken : List Bool} → c ≡ Some t → taken ≡ flags_of (links_by base t) → Reports b (Some t.sum) taken
  found-reports f q = rw (← e, f) (record { sum = refl; links = λ g. q })

  pub none-reports : (taken : List Bool) → c ≡ None → Reports b None taken
  unfolding nothing
  none-reports taken f = rw (← e, f) (record { sum = refl; links = λ g. clash g refl })
