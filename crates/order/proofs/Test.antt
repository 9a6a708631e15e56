-- Boolean tests. A fact about a test is an equation with `true` or `false`, so that `rw` and `cc` can use it.
use Rattle.std.specs.Prelude.{Bool, true, false, ◌&&◌, ◌↔◌, ◌≡◌, refl}
use Rattle.std.proofs.Common.{inl, inr, sym}
use Rattle.order.specs.Test.{Decided, clash}

pub decide : (t : Bool) → Decided t
decide true = inl refl
decide false = inr refl

-- a test that cannot pass fails; and where a second test fails, so does a first that implies it
pub fails : (t : Bool) → (t ≡ true → ⊥) → t ≡ false
fails true h = absurd (h refl)
fails false h = refl

pub refute : (s t : Bool) → (s ≡ true → t ≡ true) → t ≡ false → s ≡ false
refute s t h e = fails s (λ k. clash (h k) e)

-- two tests that pass together are equal
pub test_iff : (s t : Bool) → (s ≡ true ↔ t ≡ true) → s ≡ t
test_iff true t h = sym (h.0 refl)
test_iff false true h = h.1 refl
test_iff false false h = refl

-- a conjunction
pub both : {s t : Bool} → s ≡ true → t ≡ true → s && t ≡ true
both e f = rw (e, f)

pub right : (s t : Bool) → s && t ≡ true → t ≡ true
right true t e = e
right false t e = clash e refl
