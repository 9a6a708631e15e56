-- What callers rely on in the small surveys: they are all of their kind, each once and in order. The contract of the call has `SmallPromised`. The kind
-- is said of bytes that the reader accepts.
use Rattle.std.specs.Prelude.{List, map, ◌⊎◌, ◌≡◌, ℕ, ◌≤◌, ◌<◌, ℤ, pos, length, take}
use Rattle.order.specs.Lists.{◌∈◌}
use Rattle.order.specs.Order.{Less, TotalOrder, dictionary, orderℕ, orderℤ, pairs}
use Rattle.network.specs.Survey.{layout_of}
use Rattle.network.specs.Refusals.{checked_of}
use Rattle.network.specs.Calls.{status}
use Rattle.network.specs.Writing.{Link, figures_of, kind_of}
use Rattle.network.specs.WritingPromise.{OfBytes}
use Rattle.network.specs.SmallSurveys.{small_bytes, small_count, small_survey}
use Rattle.network.specs.Checked.{no_refusal}
use Rattle.network.specs.declared.refusals.Status.{Status}

-- ---- the kind

-- a cost of 0 or 1
abbrev pub ZeroOrOne : ℤ → Type 0
ZeroOrOne c = (c ≡ pos 0) ⊎ (c ≡ pos 1)

-- a link of a small survey: the lower end first, s and c1 of 0 or 1
pub record LinkOfSmallKind (x : Link) : Type 0 where
  pub ends : x.first < x.second
  pub sum : ZeroOrOne x.sum
  pub c1 : ZeroOrOne x.c1

-- a small survey: bytes that are accepted, with the old yard record, n = 3, p = 1, k1 = 1 and three such links
pub record OfSmallKind (s : List ℕ) : Type 0 where
  pub bytes : OfBytes s
  pub accepted : checked_of s ≡ no_refusal
  pub kind : kind_of (layout_of s) ≡ 0x5944
  pub stations : (figures_of s).yard.n ≡ 3
  pub ceilings : (figures_of s).yard.p ≡ 1
  pub rank : (figures_of s).yard.k1 ≡ 1
  pub link-count : length (figures_of s).links ≡ 3
  pub each : (x : Link) → x ∈ (figures_of s).links → LinkOfSmallKind x

-- ---- the order

-- what a link is ordered by: its ends, then s, then c1
abbrev pub choice_of : Link → (ℕ × ℕ) × (ℤ × ℤ)
choice_of x = ((x.first, x.second), (x.sum, x.c1))

-- the order of choices
abbrev pub choice_order : TotalOrder ((ℕ × ℕ) × (ℤ × ℤ))
choice_order = pairs (pairs orderℕ orderℕ) (pairs orderℤ orderℤ)

-- survey s comes before survey t: by link 0, then by link 1, then by link 2
abbrev pub ComesBefore : List ℕ → List ℕ → Type 0
ComesBefore s t = Less (dictionary choice_order) (map choice_of (figures_of s).links) (map choice_of (figures_of t).links)

-- ---- the promise

-- a survey is that of a number, and of no other
pub record NumberOf (s : List ℕ) : Type 0 where
  pub number : ℕ
  pub below : number < small_count
  pub survey : small_survey number ≡ s
  pub only : (u : ℕ) → u < small_count → small_survey u ≡ s → u ≡ number

-- what the call has done that was given number q, replied r and left these bytes in the output: `made` says that it made `small_survey q`, and the others
-- say what these surveys are
pub record SmallPromised (q : ℕ) (output : List ℕ) (r : Status) (left : List ℕ) : Type 0 where
  -- where the number is one of the 1,728 and the output has room, survey q stands at its front
  pub made : q < small_count → small_bytes ≤ length output → (r ≡ status no_refusal) × (take small_bytes left ≡ small_survey q)
  -- the survey of every number is a small one
  pub small : (u : ℕ) → u < small_count → OfSmallKind (small_survey u)
  -- every small survey is that of one number and of no other
  pub once : (s : List ℕ) → OfSmallKind s → NumberOf s
  -- of two numbers the lower one has the survey that comes before the other's
  pub ordered : (u v : ℕ) → u < v → v < small_count → ComesBefore (small_survey u) (small_survey v)
