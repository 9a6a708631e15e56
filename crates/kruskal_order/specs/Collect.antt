-- Links that pass a test, collected in an array: each link is stored, and counts where it passes.
use Rattle.std.specs.Prelude.{ℕ, ◌+◌, ◌≤◌, ◌<◌, Bool, cond, true, false, List, [], ◌∷◌, ◌++◌, ◌≡◌, refl, length, get_or, set, take}
use Rattle.std.proofs.Common.{append-nil, add-zero, le_refl, add-one, arith, length-set, take_all, take-suc, take-suc-set}
use mir.Val.{bool_byte}
use Rattle.std.proofs.lemmas.List.{take-set-le}
use Rattle.order.specs.Lists.{filter}
use Rattle.order.proofs.Lists.{filter-append}

-- the first n entries of an array are the links l
pub record Holding (l out : List ℕ) (n : ℕ) : Type 0 where
  pub links : take n out ≡ l
  pub few : n ≤ length out

pub one_at_most : (b : Bool) → bool_byte b ≤ 1
one_at_most true = omega arith
one_at_most false = omega arith

module _ (p : ℕ → Bool) where
  -- a loop over the links l after k of `end` turns: the first n entries of an array are those of the first k links that pass
  pub record Collected (l link : List ℕ) (n k end : ℕ) : Type 0 where
    pub turns : k ≤ end
    pub all : end ≡ length l
    pub fewer : n ≤ k
    pub room : length l ≤ length link
    pub passed : take n link ≡ filter p (take k l)

  pub collect-start : (l link : List ℕ) → length l ≤ length link → Collected l link 0 0 (length l)
  collect-start l link room = record { turns = omega arith; all = refl; fewer = omega arith; room = room; passed = refl }

  -- one link more
  more : (link l : List ℕ) (n e : ℕ) → n < length link → take n link ≡ filter p l
      → take (n + bool_byte (p e)) (set link n e) ≡ filter p (l ++ (e ∷ []))
  more link l n e m h = rw (filter-append p l (e ∷ []), ← h) (go (p e))
    where
      go : (c : Bool) → take (n + bool_byte c) (set link n e) ≡ take n link ++ cond c (e ∷ []) []
      go true = rw add-one (take-suc-set link n e m)
      go false = rw (add-zero, append-nil) (take-set-le n link n e (le_refl n))

  module _ {l link : List ℕ} {n k end : ℕ} (c : Collected l link n k end) where
    pub collect-room : k < end → n < length link
    collect-room h = omega (arith, c.all, c.fewer, c.room)

    pub collect-turn : {b : Bool} → k < end → b ≡ p (get_or l k 0) → Collected l (set link n (get_or l k 0)) (n + bool_byte b) (k + 1) end
    collect-turn {b} h e =
        let there : k < length l = omega (arith, c.all) in
        record {
          turns = omega arith;
          all = c.all;
          fewer = omega (arith, one_at_most b, c.fewer);
          room = omega (arith, length-set link n (get_or l k 0), c.room);
          passed = rw (e, add-one k, take-suc l k 0 there) (more link (take k l) n (get_or l k 0) (collect-room h) c.passed);
        }

    pub collect-end : end ≤ k → Holding (filter p l) link n
    collect-end h =
        let all : length l ≤ k = omega (arith, c.all) in
        record { links = rw (take_all k l all) at c.passed; few = omega (arith, c.room, c.all, c.fewer, c.turns) }
