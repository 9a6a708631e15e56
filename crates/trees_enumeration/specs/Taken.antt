-- The links that a search has taken, with a link more and with the last one left.
use Rattle.std.specs.Prelude.{ℕ, zero, suc, ◌≡◌, refl, ◌+◌, ◌-◌, ◌<◌, List, Option, Some, None, get_or, set}
use Rattle.std.proofs.Common.{arith}
use Rattle.forest.specs.declared.Forest.{Forest}
use Rattle.trees_enumeration.specs.declared.taken.Taken.{Taken}

-- with one link more, and the groups after it
abbrev pub WithMore : Taken → ℕ → Forest → Taken → Type 0
WithMore t c groups more = (more.links ≡ set t.links t.count c) × (more.history ≡ set t.history t.count groups) × (more.count ≡ t.count + 1)

-- with a last link, and the groups as they were
abbrev pub WithLast : Taken → ℕ → Taken → Type 0
WithLast t c more = (more.links ≡ set t.links t.count c) × (more.history ≡ t.history) × (more.count ≡ t.count + 1)

-- the last of the first so many links, if there is one
unfoldable pub last_at : ℕ → List ℕ → Option ℕ
last_at zero links = None
last_at (suc k) links = Some (get_or links k 0)

-- the last one taken
abbrev pub last_of : Taken → Option ℕ
last_of t = last_at t.count t.links

-- without it
abbrev pub WithoutLast : Taken → Taken → Type 0
WithoutLast t fewer = (fewer.links ≡ t.links) × (fewer.history ≡ t.history) × (fewer.count ≡ t.count - 1)

-- ---- whether there is a last one

pub last-none : (n : ℕ) (links : List ℕ) → None ≡ last_at n links → n ≡ 0
unfolding last_at
last-none zero links e = refl
last-none (suc k) links e = cc

pub last-some : (n : ℕ) (links : List ℕ) {c : ℕ} → Some c ≡ last_at n links → (0 < n) × (c ≡ get_or links (n - 1) 0)
unfolding last_at
last-some zero links e = cc
last-some (suc k) links {c} e = let n : suc k - 1 ≡ k = omega arith in (omega arith, rw n (let q : c ≡ get_or links k 0 = cc in q))

pub none-last : (n : ℕ) (links : List ℕ) → n ≡ 0 → None ≡ last_at n links
unfolding last_at
none-last n links e = rw e

pub some_last : (n : ℕ) (links : List ℕ) → (n ≡ 0 → ⊥) → Some (get_or links (n - 1) 0) ≡ last_at n links
unfolding last_at
some_last zero links h = absurd (h refl)
some_last (suc k) links h = let n : suc k - 1 ≡ k = omega arith in rw n
