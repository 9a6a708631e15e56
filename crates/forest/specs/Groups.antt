-- The forest value in the theory's terms: its leaders are a labelling held in a list.
use Rattle.std.specs.Prelude.{ℕ, ◌<◌, true, false, not, [], ◌≡◌, refl, eqb}
use Rattle.std.proofs.Common.{sym, ◌∙◌, subst, eq-eqb, ne_eqb}
use Rattle.std.proofs.Math.Path.{fun_ext}
use Rattle.network.specs.Capacities.{stations_held}
use Rattle.spanning.specs.Labelling.{Edge, Labelling, Same, crosses, merge}
use Rattle.spanning.proofs.Labelling.{merge-hit, merge-miss, same?}
use Rattle.spanning.specs.LabelList.{Labels, first_labels, label_of, relabel}
use Rattle.spanning.proofs.LabelList.{first-known, first-labels, merge-labels, relabel-labels}
use Rattle.forest.specs.declared.Forest.{Forest}

-- a link between two stations
abbrev pub link : ℕ → ℕ → Edge
link a b = record { a = a; b = b }

-- each station is a group of its own
unfoldable pub apart : Forest
apart = record { leader = first_labels stations_held }

-- what stands for groups that are not there
abbrev pub nobody : Forest
nobody = record { leader = [] }

-- the groups of a and b made one: the leader of b becomes that of a
unfoldable pub joined : Forest → ℕ → ℕ → Forest
joined f a b = record { leader = relabel f.leader (link a b) }

-- each leader leads itself
abbrev pub SelfLed : Labelling → Type 0
SelfLed L = (v : ℕ) → L (L v) ≡ L v

-- the leaders are stations, and lead themselves
pub record Led (f : Forest) : Type 0 where
  pub stations : Labels stations_held f.leader
  pub own : SelfLed (label_of f.leader)

-- no link is no group joined, and to join is to merge
pub apart-labels : (v : ℕ) → label_of apart.leader v ≡ v
unfolding apart
apart-labels v = first-labels stations_held v

pub joined-labels : (f : Forest) (a b : ℕ) → Led f → a < stations_held → b < stations_held
    → label_of (joined f a b).leader ≡ merge (label_of f.leader) (link a b)
unfolding joined
joined-labels f a b h p q = merge-labels stations_held f.leader h.stations (link a b) p q

module _ (L : Labelling) (e : Edge) (own : SelfLed L) where
  -- where the groups of a link are made one, the leader of a leads itself
  merged-leader : merge L e (L e.a) ≡ L e.a
  merged-leader = go (same? L (L e.a) e.b)
    where
      go : Dec (Same L (L e.a) e.b) → merge L e (L e.a) ≡ L e.a
      go (yes p) = merge-hit L e (L e.a) p
      go (no n) = merge-miss L e (L e.a) n ∙ own e.a

  -- and so does any other
  merged-own : SelfLed (merge L e)
  merged-own v = go (same? L v e.b)
    where
      go : Dec (Same L v e.b) → merge L e (merge L e v) ≡ merge L e v
      go (yes p) = rw (merge-hit L e v p) merged-leader
      go (no n) = rw (merge-miss L e v n) (merge-miss L e (L v) (λ s. n (sym (own v) ∙ s)) ∙ own v)

-- at the start the groups are led, and joining keeps them so
pub apart-led : Led apart
unfolding apart
apart-led = record { stations = first-known stations_held; own = subst SelfLed (sym (fun_ext apart-labels)) (λ v. refl) }

pub joined-led : (f : Forest) (a b : ℕ) → Led f → a < stations_held → b < stations_held → Led (joined f a b)
unfolding joined
joined-led f a b h p q =
    record {
      stations = relabel-labels stations_held f.leader h.stations (link a b) p q;
      own = subst SelfLed (sym (joined-labels f a b h p q)) (merged-own (label_of f.leader) (link a b) h.own);
    }

-- A program joins the groups of two stations by their leaders: `new` leads that of a, and `old` that of b.
module _ (f : Forest) (a b : ℕ) {new old : ℕ} (p : new ≡ label_of f.leader a) (q : old ≡ label_of f.leader b) where
  -- a link between them joins two groups where the leaders differ
  pub leaders-test : not (eqb new old) ≡ crosses (label_of f.leader) (link a b)
  unfolding crosses
  leaders-test = rw (p, q)

  pub leaders-differ : (new ≡ old → ⊥) → crosses (label_of f.leader) (link a b) ≡ true
  leaders-differ h = rw (ne_eqb new old h) at (sym leaders-test)

  pub leaders-equal : new ≡ old → crosses (label_of f.leader) (link a b) ≡ false
  leaders-equal h = rw (eq-eqb new old h) at (sym leaders-test)

  module _ (led : Led f) where
    -- both lead themselves
    pub leaders-lead : (label_of f.leader new ≡ new) × (label_of f.leader old ≡ old)
    leaders-lead = rw (p, q) (led.own a, led.own b)

    -- and to join them is to join the two stations
    pub leaders-joined : joined f new old ≡ joined f a b
    unfolding joined
    leaders-joined = rw (leaders-lead.0, leaders-lead.1) (rw (p, q))
