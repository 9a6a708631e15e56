-- The pigeonhole principle: a list whose members have different keys, all of them in a list of keys, is no longer than that list.
use mathlib.Core.List.Memᴰ
use mathlib.Core.List.Memᴰ.{head as here}
use mathlib.Core.List.Memᴰ.{tail as there}
use Rattle.std.specs.Prelude.{List, [], ◌∷◌, ◌⊎◌, ◌≡◌, refl, ◌≤◌, length}
use Rattle.std.proofs.Common.{inl, inr, arith}
use Rattle.order.specs.Lists.{◌∈◌}
use Rattle.order.specs.Perm.{Perm}
use Rattle.order.proofs.Perm.{mem-front, perm-length, perm-⊆}
use Rattle.order.specs.Sorted.{Apart}

module _ {K A : Type 0} (key : A → K) where
  -- the keys of the later members, where that of the first is taken out
  others : (x : A) (l : List A) (m rest : List K) → ((y : A) → y ∈ l → ¬ (key y ≡ key x)) → Perm m (key x ∷ rest) → ((a : A) → a ∈ x ∷ l → key a ∈ m)
      → (a : A) → a ∈ l → key a ∈ rest
  others x l m rest apart p h a n = go (Memᴰ.cases_cons (perm-⊆ p (key a) (h a (there n))))
    where
      go : (key a ≡ key x) ⊎ (key a ∈ rest) → key a ∈ rest
      go (inl e) = absurd (apart a n e)
      go (inr k) = k

  pub apart-few : (l : List A) (m : List K) → Apart key l → ((a : A) → a ∈ l → key a ∈ m) → length l ≤ length m
  apart-few [] m apart h = omega arith
  apart-few (x ∷ l) m apart h =
      let w = mem-front (h x (here refl)) in
      omega (arith, perm-length w.1, apart-few l w.0 apart.1 (others x l m w.0 apart.0 w.1 h))
