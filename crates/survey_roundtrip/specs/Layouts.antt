-- What holds of the layouts that the writer knows, shown over their table.
use Rattle.std.specs.Prelude.{Bool, true, false, cond, not, List, ◌≡◌, refl, ℕ, ◌+◌, ◌≤◌, length, eqb}
use Rattle.std.proofs.Common.{⊎_elim, inl, inr, sym, ap, arith, eqb-true, ne_eqb}
use Rattle.std.proofs.lemmas.Bool.{not-false}
use Rattle.order.specs.Every.{◌▸◌, done}
use Rattle.order.proofs.Every.{every}
use Rattle.order.specs.Test.{clash}
use Rattle.network.specs.Survey.{count_at, has_count, has_rest, layout_of, link_size, narrow_slots, plain, rest_in, row_where, triple, with_count, with_rest, yard_size}
use Rattle.network.proofs.Layouts.{layout-has, row_has}
use Rattle.network.specs.Writing.{is_of_kind, kind_of, layout_for, unknown_kind, writable}
use Rattle.network.specs.WritingPromise.{Known}
use Rattle.network.specs.declared.Layout.{Layout}

-- the bytes of a yard record that is written, but for its link count, and of a link record: they have room for two ceilings
abbrev pub written_yard : ℕ
written_yard = yard_size narrow_slots

abbrev pub written_link : ℕ
written_link = link_size narrow_slots

-- it has room for two ceilings, and needs none; its marks have two bytes; its yard record has the shared fields and then the link count, if it has one, and
-- no stations at rest; and a survey with its mark is read by it
pub record Writable (l : Layout) : Type 0 where
  pub fewest : l.fewest ≡ 0
  pub slots : l.slots ≡ narrow_slots
  pub marked : length l.yard.mark ≡ 2
  pub size : l.yard.size ≡ written_yard + cond (has_count l) 1 0
  pub counted : count_at l ≡ cond (has_count l) written_yard 0
  pub awake : has_rest l ≡ false
  pub link-marked : length l.link.mark ≡ 2
  pub link-size : l.link.size ≡ written_link
  pub read : layout_of l.yard.mark ≡ l

-- its yard record has at most one byte more than the shared fields
pub yard-small : {l : Layout} → Writable l → l.yard.size ≤ written_yard + 1
yard-small {l} w = go (has_count l) w.size
  where
    go : (b : Bool) → l.yard.size ≡ written_yard + cond b 1 0 → l.yard.size ≤ written_yard + 1
    go true e = omega arith
    go false e = omega arith

-- a survey of such a layout has no station at rest
pub none-at-rest : (l : Layout) → Writable l → (s : List ℕ) → rest_in l s ≡ 0
unfolding rest_in
none-at-rest l w s = rw w.awake

pub plain-writable : Writable plain
unfolding layout_of row_where
plain-writable =
    record { fewest = refl; slots = refl; marked = refl; size = refl; counted = refl; awake = refl; link-marked = refl; link-size = refl; read = refl }

pub counted-writable : Writable with_count
unfolding layout_of row_where
counted-writable =
    record { fewest = refl; slots = refl; marked = refl; size = refl; counted = refl; awake = refl; link-marked = refl; link-size = refl; read = refl }

-- the layout of any kind that is asked for is one of them
pub writable-for : (kind : ℕ) → Writable (layout_for kind)
unfolding layout_for
writable-for kind = row_has Writable plain-writable (is_of_kind kind) writable (every Writable (plain-writable ▸ counted-writable ▸ done))

-- if the writer knows a layout's kind, it is the layout of that kind
abbrev Named : Layout → Type 0
Named l = unknown_kind (kind_of l) ≡ false → layout_for (kind_of l) ≡ l

plain-named : Named plain
unfolding layout_for row_where
plain-named e = refl

counted-named : Named with_count
unfolding layout_for row_where
counted-named e = refl

rested-named : Named with_rest
unfolding unknown_kind layout_for row_where
rested-named e = clash refl e

triple-named : Named triple
unfolding unknown_kind layout_for row_where
triple-named e = clash refl e

-- the layout of a survey of a kind that is known is the layout of that kind
pub layout-known : (s : List ℕ) (kind : ℕ) → kind_of (layout_of s) ≡ kind → unknown_kind kind ≡ false → layout_for kind ≡ layout_of s
layout-known s kind e known = rw (← e) (layout-has Named (every Named (plain-named ▸ counted-named ▸ rested-named ▸ triple-named ▸ done)) s (rw (← e) at known))

-- the kinds of the table are known,
pub kind-listed : (kind : ℕ) → Known kind → unknown_kind kind ≡ false
unfolding unknown_kind layout_for row_where
kind-listed kind k = ⊎_elim (λ (e : kind ≡ 0x5944). rw e) (λ (e : kind ≡ 0x5945). rw e) k

-- and no others are
pub kind-missed : (kind : ℕ) → (Known kind → ⊥) → unknown_kind kind ≡ true
unfolding unknown_kind layout_for row_where
kind-missed kind k =
    let plainly : eqb 0x5944 kind ≡ false = ne_eqb 0x5944 kind (λ e. k (inl (sym e))) in
    let counted : eqb 0x5945 kind ≡ false = ne_eqb 0x5945 kind (λ e. k (inr (sym e))) in
    rw (plainly, counted) (ap not plainly)

-- a kind that is known is that of its layout
pub kind-known : (kind : ℕ) → unknown_kind kind ≡ false → kind_of (layout_for kind) ≡ kind
unfolding unknown_kind
kind-known kind e = eqb-true _ _ (not-false _ e)
