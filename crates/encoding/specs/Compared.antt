-- Signed numbers arrive as their bits where they are handed on: comparing them so compares the numbers.
use Rattle.std.specs.Prelude.{◌≡◌, Bool, ℤ}
use Rattle.std.proofs.Common.{ap₂, ◌∙◌, SFits, of_z, to_z}
use Rattle.std.specs.Int.Signed.{le_z}
use Rattle.std.specs.Int.{Width}
use Rattle.std.proofs.lemmas.Int.{to_z-of_z}

-- what compares two numbers of a width through their bits compares the numbers
pub tested : (w : Width) (a b : ℤ) {r : Bool} → SFits w a → SFits w b → r ≡ le_z (to_z w (of_z w a)) (to_z w (of_z w b)) → r ≡ le_z a b
tested w a b p q e = e ∙ ap₂ le_z (to_z-of_z w a p) (to_z-of_z w b q)
