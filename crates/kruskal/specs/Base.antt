-- The links that Kruskal's method keeps, as a program collects them in an array, and the groups after each of them.
use Rattle.std.specs.Prelude.{ℕ, ◌+◌, ◌≤◌, ◌<◌, true, false, cond, ◌≡◌, length, get_or, set, take, drop}
use mathlib.Core.List.{List, [], ◌∷◌, ◌++◌, append-nil, Sublistᴰ}
use Rattle.std.proofs.Math.Path.{refl, sym}
use Rattle.std.proofs.Common.{◌∙◌, drop_of_length-le, drop-cons}
use Rattle.std.proofs.Math.Numerals.{add-one}
use Rattle.std.proofs.Math.Seq.{append_snoc, take-suc-set}
use Rattle.order.specs.Test.{by-test}
use Rattle.order.specs.Lists.{◌∈◌}
use Rattle.order.specs.Perm as perm
use Rattle.order.specs.Sorted.{Apart}
use Rattle.spanning.specs.Labelling.{crosses}
use Rattle.spanning.specs.LabelList.{label_of}
use Rattle.spanning.specs.Tree.{Within}
use Rattle.network.specs.Capacities.{stations_held, tree_held}
use Rattle.network.specs.Yard.{ends_at, sum_at}
use Rattle.forest.specs.Groups.{apart, joined, nobody}
use Rattle.forest.specs.History.{groups_after}
use Rattle.forest.specs.declared.Forest.{Forest}
use Rattle.kruskal.specs.declared.links.Base.{Base}

module _ (ends : List ℕ) where
  -- the links of a list that are kept, from the groups f
  unfoldable pub kept : Forest → List ℕ → List ℕ
  kept f [] = []
  kept f (e ∷ l) =
      let more = kept (joined f (ends_at ends e).a (ends_at ends e).b) l in
      let rest = kept f l in
      cond (crosses (label_of f.leader) (ends_at ends e)) (e ∷ more) rest

  -- they are links of the list, in its order
  pub kept-sublist : (f : Forest) (l : List ℕ) → Sublistᴰ (kept f l) l
  unfolding kept
  kept-sublist f [] = Sublistᴰ.slnil
  kept-sublist f (e ∷ l) =
      let more = kept-sublist (joined f (ends_at ends e).a (ends_at ends e).b) l in
      let rest = kept-sublist f l in
      by-test (crosses (label_of f.leader) (ends_at ends e)) (λ c. rw c (Sublistᴰ.cons-cons refl more)) (λ c. rw c (Sublistᴰ.cons rest))

  -- the first n links of an array, and those kept of l from place k on, from the groups f
  unfoldable pub collected : List ℕ → Forest → List ℕ → ℕ → ℕ → List ℕ
  collected l f link n k = take n link ++ kept f (drop k l)

  -- The loop: what is collected at each turn is what is kept of the whole.
  pub collect-start : (l : List ℕ) (f : Forest) (link : List ℕ) → collected l f link 0 0 ≡ kept f l
  unfolding collected
  collect-start l f link = refl

  module _ (l : List ℕ) (f : Forest) (link w : List ℕ) (n k : ℕ) (i : collected l f link n k ≡ w) where
    pub collect-taken : k < length l → n < length link → crosses (label_of f.leader) (ends_at ends (get_or l k 0)) ≡ true
        → collected l (joined f (ends_at ends (get_or l k 0)).a (ends_at ends (get_or l k 0)).b) (set link n (get_or l k 0)) (n + 1) (k + 1) ≡ w
    unfolding collected kept
    collect-taken h m e =
        rw (add-one n, add-one k, take-suc-set link n (get_or l k 0) m, append_snoc) (rw (drop-cons l k 0 h, e) at i)

    pub collect-left : k < length l → crosses (label_of f.leader) (ends_at ends (get_or l k 0)) ≡ false → collected l f link n (k + 1) ≡ w
    unfolding collected kept
    collect-left h e = rw (add-one k) (rw (drop-cons l k 0 h, e) at i)

    pub collect-end : length l ≤ k → take n link ≡ w
    unfolding collected kept
    collect-end h = sym (append-nil (take n link)) ∙ rw (drop_of_length-le l h) at i

-- the groups after each link of a list stand in an array
pub record Recorded (ends links : List ℕ) (history : List Forest) : Type 0 where
  pub room : length links ≤ length history
  pub row : (k : ℕ) → k < length links → get_or history k nobody ≡ groups_after ends (take (k + 1) links)

-- the links of a list join stations, one more than `goal` and each there once, which arrays hold
pub record Joinable (ends links : List ℕ) (goal : ℕ) : Type 0 where
  pub stations : List ℕ
  pub size : length stations ≡ goal + 1
  pub different : Apart (λ x. x) stations
  pub known : (v : ℕ) → v ∈ stations → v < stations_held
  pub within : (e : ℕ) → e ∈ links → Within stations (ends_at ends e)
  pub held : goal ≤ tree_held

-- an array holds the links that are kept of a list, of which r has the number and the sum, and another the groups after each of them
pub record Based (ends sums l : List ℕ) (goal : ℕ) (base : List ℕ) (history : List Forest) (r : Base) : Type 0 where
  pub links : take r.count base ≡ kept ends apart l
  pub inside : r.count ≤ length base
  pub few : r.count ≤ goal
  pub total : r.sum ≡ perm.sum (sum_at sums) (kept ends apart l)
  pub recorded : Recorded ends (kept ends apart l) history
