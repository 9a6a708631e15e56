-- The base alone: the first tree that the search offers, as a trial and as the lead.
use Rattle.std.specs.Prelude.{Option, Some, None, IfSome, cond, ℕ, suc, ◌+◌, true, false, not, ◌&&◌, ◌≡◌, refl, eqb, length}
use mathlib.Core.List.{List, [], ◌∷◌, foldl}
use Rattle.std.proofs.Math.Path.{sym, ap, subst}
use Rattle.std.proofs.Common.{◌∙◌, arith, eq-eqb, ne_eqb}
use Rattle.order.specs.Test.{by-test}
use Rattle.order.specs.Perm.{sum}
use Rattle.spanning.specs.Labelling.{crosses}
use Rattle.spanning.specs.LabelList.{label_of}
use Rattle.spanning.specs.Places.{at_places}
use Rattle.forest.specs.Groups.{apart, joined}
use Rattle.forest.specs.declared.Forest.{Forest}
use Rattle.kruskal.specs.Tree.{Tree, added, bare, linked}
use Rattle.kruskal.specs.Base.{kept}
use Rattle.kruskal.specs.Grown.{with_flag, flags_of}
use Rattle.kruskal.specs.declared.links.Base.{Base}
use Rattle.exceptions.specs.Patterns.{Patterned, admitted}
use Rattle.kmax.proofs.Digits.{admits-none}
use Rattle.search_trials.specs.Marks.{Flagged}
use Rattle.search_trials.specs.Search.{considered, nothing, tried, tried_if}
use Rattle.search_trials.specs.Chosen.{competed-best}
use Rattle.search_trials.specs.Stands.{Stands, best_by, exceptions_of, grown_from, links_by}
use Rattle.search_trials.specs.declared.best.ExceptionSet.TheVariants.{Empty}
use Rattle.search_trials.specs.declared.best.Trial.{Trial}
use Rattle.network.specs.Yard.{ends_at, sum_at}

-- the base as a trial: no exception, and no link lost
unfoldable pub trial_alone : Base → Trial
trial_alone b = record { count = b.count; sum = b.sum; set = Empty; lost = None; lost2 = None }

-- the base as the lead, where it has `goal` links
unfoldable pub lead_alone : Base → ℕ → Option Trial
lead_alone b goal = cond (eqb b.count goal) (Some (trial_alone b)) None

-- by the test
pub alone-leads : (b : Base) (goal : ℕ) → b.count ≡ goal → Some (trial_alone b) ≡ lead_alone b goal
unfolding lead_alone
alone-leads b goal e = rw (eq-eqb b.count goal e)

pub alone-short : (b : Base) (goal : ℕ) → ¬ (b.count ≡ goal) → None ≡ lead_alone b goal
unfolding lead_alone
alone-short b goal n = rw (ne_eqb b.count goal n)

-- b has the number of links of a base, and their sum
pub record Counted (sums base : List ℕ) (b : Base) : Type 0 where
  pub size : b.count ≡ length base
  pub total : b.sum ≡ sum (sum_at sums) base

-- the base is what Kruskal's method keeps of it
pub record Kept (ends base : List ℕ) : Type 0 where
  pub kept_of : base ≡ kept ends apart base

-- as is what it keeps of any links
kept-again : (ends : List ℕ) (f : Forest) (l : List ℕ) → kept ends f l ≡ kept ends f (kept ends f l)
unfolding kept
kept-again ends f [] = refl
kept-again ends f (e ∷ l) =
    by-test (crosses (label_of f.leader) (ends_at ends e))
    (λ c. rw (c, c) (ap (◌∷◌ e) (kept-again ends (joined f (ends_at ends e).a (ends_at ends e).b) l)))
    (λ c. rw c (kept-again ends f l))

pub kept-base : (ends l : List ℕ) → Kept ends (kept ends apart l)
kept-base ends l = record { kept_of = kept-again ends apart l }

-- a walk over links that are kept takes them all
pub record Took (sums : List ℕ) (t : Tree) (l : List ℕ) (u : Tree) : Type 0 where
  pub flags : u.taken ≡ foldl with_flag t.taken l
  pub total : u.sum ≡ t.sum + sum (sum_at sums) l
  pub size : u.count ≡ t.count + length l

taken-added : (ends sums : List ℕ) (t : Tree) (e : ℕ) → crosses (label_of t.forest.leader) (ends_at ends e) ≡ true
    → linked ends sums t e ≡ added ends sums t e
unfolding linked
taken-added ends sums t e c = rw c

kept-walk : (ends sums : List ℕ) (t : Tree) (l : List ℕ) → Took sums t (kept ends t.forest l) (foldl (linked ends sums) t (kept ends t.forest l))
unfolding kept added
kept-walk ends sums t [] = record { flags = refl; total = omega arith; size = omega arith }
kept-walk ends sums t (e ∷ l) =
    by-test (crosses (label_of t.forest.leader) (ends_at ends e))
    (λ c.
    let more : List ℕ = kept ends (joined t.forest (ends_at ends e).a (ends_at ends e).b) l in
    let w = kept-walk ends sums (added ends sums t e) l in
    let step : Took sums t (e ∷ more) (foldl (linked ends sums) (added ends sums t e) more) =
    record { flags = w.flags; total = omega (arith, w.total); size = omega (arith, w.size) } in
    rw c (subst (λ (u : Tree). Took sums t (e ∷ more) (foldl (linked ends sums) u more)) (sym (taken-added ends sums t e c)) step))
    (λ c. rw c (kept-walk ends sums t l))

-- ---- the links of the trial are those of the base

none-lost : (n k : ℕ) (l : List ℕ) → k + length l ≡ n → at_places (λ i. not (eqb i n) && not (eqb i n)) k l ≡ l
unfolding at_places
none-lost n k [] h = refl
none-lost n k (x ∷ l) h =
    let e : eqb k n ≡ false = ne_eqb k n (λ q. omega arith) in
    rw e (ap (◌∷◌ x) (none-lost n (suc k) l (omega arith)))

pub alone-flagged : (b : Base) → Flagged (trial_alone b)
unfolding trial_alone
alone-flagged b = record { set = tt }

pub lead-flagged : (b : Base) (goal : ℕ) → IfSome (lead_alone b goal) Flagged
unfolding lead_alone
lead-flagged b goal = by-test (eqb b.count goal) (λ e. rw e (alone-flagged b)) (λ e. rw e tt)

module _ (ends sums base : List ℕ) (b : Base) (made : Kept ends base) (counted : Counted sums base b) where
  links-alone : links_by base (trial_alone b) ≡ base
  unfolding links_by exceptions_of trial_alone
  links-alone = none-lost (length base) 0 base (omega arith)

  -- the trial of the base alone stands for the tree that the empty set leads to
  pub alone-stands : Stands base (grown_from ends sums base []) (trial_alone b)
  unfolding grown_from trial_alone bare flags_of
  alone-stands =
      let u = foldl (linked ends sums) bare base in
      let took : Took sums bare base u =
      subst (λ (l : List ℕ). Took sums bare l (foldl (linked ends sums) bare l)) (sym made.kept_of) (kept-walk ends sums bare base) in
      record {
        count = omega (arith, counted.size, took.size);
        sum = omega (arith, counted.total, took.total);
        flags = ap flags_of links-alone ∙ sym took.flags;
      }

  -- The empty set is admitted, where no rank is 0: as the lead the base stands for the best tree so far.
  pub alone-best : (goal : ℕ) (ks patterns : List ℕ) {m : ℕ} → Patterned m ks patterns
      → best_by base (lead_alone b goal) ≡ considered ends sums goal ks patterns base nothing []
  unfolding tried tried_if bare admitted lead_alone trial_alone grown_from
  alone-best goal ks patterns P = rw (admits-none ks P.positive) (competed-best base goal alone-stands None)
