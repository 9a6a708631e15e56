-- What fetching replies to C: a number, and the part of the list that holds the links.
use mathlib.Core.List.{List}
use Rattle.std.proofs.Math.Logic.{inl, inr}
use Rattle.std.specs.Prelude.{◌≡◌, ℕ, ◌+◌, ◌≤◌, eqb, drop}
use Rattle.std.proofs.Math.Path.{ap, ap₂, sym}
use Rattle.std.proofs.Common.{◌∙◌, length-drop, length-take-le}
use native.Mathlib.Omega.{arith}
use borrow.Author.Tests.{eqb-false, eqb-true}
use Rattle.std.proofs.Math.ListN.{length, take}
use Rattle.order.proofs.Test.{decide}
use Rattle.network.specs.Fetching.{fetch_links, fetch_number, fetch_start, links_start, head_tree_size}
use Rattle.network.specs.Promise.{LinksKept, NumberKept}
use Rattle.planlist_fetching.specs.Found.{found, plan-inside}
use Rattle.planlist_fetching.specs.Fetched.{links-found, links-none, start-found, start_none}
use Rattle.planner_fetch.specs.Archive.{links-kept, number-kept}
use Rattle.capi_replies.specs.declared.part.Part.{Part}

-- the reply of fetching: the number, and where the link bytes are in the list
unfoldable pub part_of : List ℕ → ℕ → Part
part_of list r = record { number = fetch_number list r; start = fetch_start list r; count = length (fetch_links list r) }

-- field by field
pub flat-part : (list : List ℕ) (r : ℕ) {number start : ℕ} {links : List ℕ} → number ≡ fetch_number list r → start ≡ fetch_start list r
    → links ≡ fetch_links list r → record { number = number; start = start; count = length links } ≡ part_of list r
unfolding part_of
flat-part list r e f g = λ i. record { number = e i; start = f i; count = length (g i) }

module _ (list : List ℕ) (r : ℕ) where
  -- plan r is found: its t link bytes stand inside the list
  found_part : fetch_number list r ≡ 0 → (links_start list r + head_tree_size list ≤ length list) × (length (fetch_links list r) ≡ head_tree_size list)
  found_part e =
      let f = found list r e in
      let inside = plan-inside list r f.0 f.1 in
      let rest = length-drop (links_start list r) list in
      (omega arith, ap length (links-found list r e) ∙ length-take-le (head_tree_size list) (drop (links_start list r) list) (omega arith))

  -- the part lies inside the list
  part-inside : (part_of list r).start + (part_of list r).count ≤ length list
  unfolding part_of
  part-inside =
      elim (decide (eqb (fetch_number list r) 0)) [
        | inl e ↦ let n = eqb-true _ _ e in let p = found_part n in let s = start-found list r n in omega (arith, p)
        | inr e ↦ let n = eqb-false _ _ e in let s = start_none list r n in let k = ap length (links-none list r n) in omega arith
      ]

  -- its bytes are the links of plan r
  part-links : take (part_of list r).count (drop (part_of list r).start list) ≡ fetch_links list r
  unfolding part_of
  part-links =
      elim (decide (eqb (fetch_number list r) 0)) [
        | inl e ↦
            let n = eqb-true _ _ e in
            ap₂ (λ (k s : ℕ). take k (drop s list)) (found_part n).1 (start-found list r n) ∙ sym (links-found list r n)
        | inr e ↦
            let n = eqb-false _ _ e in
            ap (λ (l : List ℕ). take (length l) (drop (fetch_start list r) list)) (links-none list r n) ∙ sym (links-none list r n)
      ]

-- what a caller of fetching relies on: the part lies inside the list, its bytes are the links of plan r, and from a list that a list call made these
-- are the links of the plan listed there
pub record PartOf (list : List ℕ) (r : ℕ) (part : Part) : Type 0 where
  pub inside : part.start + part.count ≤ length list
  pub links : take part.count (drop part.start list) ≡ fetch_links list r
  pub number : NumberKept list r part.number
  pub kept : LinksKept list r (take part.count (drop part.start list))

pub part-of : (list : List ℕ) (r : ℕ) {part : Part} → part ≡ part_of list r → PartOf list r part
unfolding part_of
part-of list r e =
    let links = ap (λ (p : Part). take p.count (drop p.start list)) e ∙ part-links list r in
    record {
      inside = rw e (part-inside list r);
      links = links;
      number = number-kept list r (ap (λ (p : Part). p.number) e);
      kept = links-kept list r links;
    }
