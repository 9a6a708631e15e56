-- `ranks::slack_of` meets its contract. What the definition adds up rank by rank is a sum over the ranks.
use Rattle.std.proofs.Common.{◌≡◌, ℕ, ◌+◌, ◌-◌, List, [], ◌∷◌, refl, ap, ◌∙◌, rules}
use Rattle.std.specs.List.{sum_by}
use Rattle.std.proofs.lemmas.List.Sums.{sum_by-cons}
use Rattle.kmax.specs.Ceilings.{slack_of}
use Rattle.ranks.proofs.slack_of.Goals as goal

summed : (ks : List ℕ) → sum_by (λ k. k - 1) ks ≡ slack_of ks
summed [] = refl
summed (k ∷ ks) = sum_by-cons (λ k. k - 1) k ks ∙ ap (λ n. (k - 1) + n) (summed ks)

pub returns : goal.returns
returns c = let h : c.sum.result ≡ sum_by (λ k. k - 1) c.args.ks.now = search rules in h ∙ summed _
