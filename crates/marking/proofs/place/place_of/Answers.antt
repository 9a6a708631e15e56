-- `marking::place::place_of` meets its contract: the first value that passes the test has the place.
use Rattle.std.proofs.Common.{◌≡◌, ◌∙◌, sym, true, false, refl, rules, add-one}
use Rattle.std.proofs.lemmas.Iterator.{IsFirst-from_position, YieldsList-from_slice, index_from_first}
use Rattle.std.specs.Int.Signed.{le_z}
use borrow.Author.Tests.{tests}
use Rattle.marking.specs.Place.{place_in}
use Rattle.marking.proofs.place.place_of.Goals as goal

pub returns : goal.returns
unfolding place_in
returns c =
    let a = c.args in
    let first =
    IsFirst-from_position c.position.new.self _ c.position.result (λ y. le_z y a.x ≡ true) (λ y. le_z y a.x ≡ false) c.position.ensures.ran
    (YieldsList-from_slice a.values.now cc) (λ x q k. search (rules, tests)) (λ x q k. search (rules, tests)) in
    c.unwrap_or.ensures
    ∙ sym (index_from_first (place_in a.x) (λ y. le_z y a.x ≡ true) (λ y. le_z y a.x ≡ false) refl (λ y l e. rw e) (λ y l e. rw e (sym (add-one (place_in a.x l)))) a.values.now c.position.result first)
