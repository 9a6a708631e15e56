-- What is left of the ranks admits what is left of the digits as the whole does.
use Rattle.std.proofs.Common.{◌≡◌, ◌<◌, ◌∷◌, [], drop}
use Rattle.kmax.specs.Digits.{admits}
use Rattle.exceptions.proofs.admitted.admits_pair.Given as goal

abbrev pub invariant-loop-rank : goal.invariant-loop-rank
invariant-loop-rank l = (l.a < 256) × (l.b < 256) × (admits (drop l.rank-index l.ks) (l.a ∷ l.b ∷ []) ≡ admits l.ks (l.pattern ∷ l.other ∷ []))
