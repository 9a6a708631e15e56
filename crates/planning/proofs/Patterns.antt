-- Exceptional links of several patterns, exchanged one pattern after the other: for each tree there is one that fits where that fits and is no worse,
-- and each of whose links is among those that Kruskal's method keeps of the links of its pattern. So a search may try sets of such links alone.
-- For any number of ceilings and any ranks.
use Rattle.std.specs.Prelude.{◌≡◌, refl, ℕ, ◌≤◌, ℤ, pos, length}
use mathlib.Core.List.Memᴰ
use mathlib.Core.List.{List, [], ◌∷◌, map, Sublistᴰ}
use Rattle.std.proofs.Common.{⊎_elim, sym, ◌∙◌, arith, eq-eqb, eqb-true}
use Rattle.order.specs.Test.{by-test}
use Rattle.order.specs.Lists.{◌∈◌, filter}
use Rattle.order.proofs.Lists.{filter-mem, filter-sublist, sublist-⊆}
use Rattle.order.specs.Order.{orderℤ}
use Rattle.order.proofs.Order.{le_refl}
use Rattle.kmax.specs.Ceilings.{exceptional, slack_of}
use Rattle.kmax.proofs.Ceilings.{ceilings-slack, meets-admissible, meets-few}
use Rattle.kmax.specs.Pattern.{OnePattern}
use Rattle.kmax.proofs.Pattern.{exceptional-lone}
use Rattle.kmax.specs.Digits.{pattern}
use Rattle.kmax.proofs.Digits.{pattern-alike}
use Rattle.planning.specs.Graph.{Graph, Sound, exceptionals, links, sum_key, sum_order, trees, under}
use Rattle.planning.specs.Search.{EnoughSets}
use Rattle.planning.proofs.Search.{trees-ranked}
use Rattle.planning.proofs.Exchange.{exchange}
use Rattle.planning.specs.Patterns.{AllExchanged, KeptLink, has, keeps}

module _ (G : Graph) (bs : List ℤ) where
  open G use {weight}

  one-pattern : (q : ℕ) → OnePattern orderℤ (under G bs) (has G bs q)
  one-pattern q c m x y e f = pattern-alike orderℤ (under G bs) c m x y (eqb-true _ q e ∙ sym (eqb-true _ q f))

module _ (G : Graph) (S : Sound G) (bs : List ℤ) where
  open G use {cost, ks}

  -- by induction on the patterns: a link of a pattern done before is not of the pattern in turn, so it stays, and stays kept
  exchange-all : (qs ts : List ℕ) → ts ∈ trees G → (us : List ℕ) × AllExchanged G bs S qs ts us
  exchange-all [] ts k =
      (ts, record { does = record { tree = k; fits = refl; better = le_refl sum_order (sum_key G ts) }; kept = λ q i. elim i [ ] })
  exchange-all (q ∷ qs) ts k =
      let first = exchange-all qs ts k in
      let vs = first.0 in
      let v = first.1 in
      let then = exchange G S bs (has G bs q) (one-pattern G bs q) vs v.does.tree in
      let us = then.0 in
      let u = then.1 in (
        us,
        record {
          does = record {
            tree = u.does.tree;
            fits = u.does.fits ∙ v.does.fits;
            better = sum_order.le_trans (sum_key G us) (sum_key G vs) (sum_key G ts) u.does.better v.does.better;
          };
          kept = λ r i x j e.
              ⊎_elim {C = x ∈ keeps G bs r}
              (λ (w : r ≡ q). rw w (u.kept x j (rw w at e)))
              (λ o. by-test {P = x ∈ keeps G bs r} (has G bs q x)
              (λ h. let w : q ≡ r = sym (eqb-true _ q h) ∙ eqb-true _ r e in rw (← w) (u.kept x j h))
              (λ h. v.kept r o x (u.stays x j h) e))
              (Memᴰ.cases_cons i);
        },
      )

  -- THE THEOREM: sets of exceptional links are enough, where all small ones whose links are kept are among them
  pub kept-enough : (Xs : List (List ℕ)) → ((X : List ℕ) → X ∈ Xs → Sublistᴰ X (exceptionals G bs))
      → ((X : List ℕ) → Sublistᴰ X (exceptionals G bs) → length X ≤ slack_of ks → ((x : ℕ) → x ∈ X → KeptLink G bs x) → X ∈ Xs) → EnoughSets G bs Xs
  kept-enough Xs sound all =
      record {
        sound = sound;
        covers = λ ts k f.
            let u = exchange-all (map (pattern orderℤ (under G bs)) (links G)) ts k in
            let us = u.0 in
            let r = u.1.does in
            let T = trees-ranked G S bs in
            let fine = r.fits ∙ f in
            let odd = exceptional orderℤ (under G bs) in
            let few = meets-few orderℤ (pos 0) (under G bs) us (T.ranks us r.tree) fine in
            let sub = T.subsequence us r.tree in
            let small : length (filter odd us) ≤ slack_of ks = omega (arith, ceilings-slack cost 0 ks bs) in (
              us,
              r.tree,
              fine,
              r.better,
              all (filter odd us) (filter-sublist odd sub) small (λ x i.
                  let at = (filter-mem odd us i).0 in
                  let q = pattern orderℤ (under G bs) x in
                  record {
                    alone = exceptional-lone orderℤ (under G bs) us (sym (meets-admissible orderℤ (pos 0) (under G bs) us (T.ranks us r.tree)) ∙ fine) x i;
                    kept = u.1.kept q (Memᴰ.map (pattern orderℤ (under G bs)) (sublist-⊆ sub x at)) x at (eq-eqb q q refl);
                  }),
            );
      }
