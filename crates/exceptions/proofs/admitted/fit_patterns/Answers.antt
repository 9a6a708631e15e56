-- Each pattern is tested by the closure, as the definition tests it.
use Rattle.std.proofs.Common.{[], ◌∷◌, false, ◌&&◌, rules}
use borrow.Author.Tests.{tests}
use Rattle.kmax.specs.Digits.{admits, marked}
use Rattle.network.specs.Capacities.{patterns_held}
use Rattle.forest.specs.Made.{made}
use Rattle.exceptions.specs.Fit.{fit-size, fit_at, fit_of}
use Rattle.exceptions.proofs.admitted.fit_patterns.Goals as goal

pub returns : goal.returns
returns c =
    let ks = c.args.ks.now in
    made _ _ (λ x. marked x && admits ks (x ∷ [])) (λ x r q k. search (rules, tests)) c.from_fn.result (fit_of ks) patterns_held c.from_fn.ensures.items (fit-size ks) false (fit_at ks)
