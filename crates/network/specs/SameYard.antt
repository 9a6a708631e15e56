-- Two surveys that say the same yard in different layouts, with the same link records behind the yard record, are planned alike.
use Prim.Native.Nat.{ℕ, ◌+◌}
use Rattle.std.specs.Prelude.{◌≡◌}
use mathlib.Core.List.{List}
use Rattle.std.proofs.Math.ListN.{length}
use Rattle.network.specs.Moved.{Moved}
use Rattle.network.specs.Bytes.{mark_at}
use Rattle.network.specs.Survey.{ceilings_in, layout_of, link_count}
use Rattle.network.specs.Survey.{ranks_in, rest_in, stations_in}
use Rattle.network.specs.Refusals.{bad_count}
use Rattle.network.specs.declared.Layout.{Layout}

-- Surveys s and s' say the same yard, in the layouts l and l'.
pub record SameYard (s : List ℕ) (l : Layout) (s' : List ℕ) (l' : Layout) : Type 0 where
  pub layout : layout_of s ≡ l
  pub layout' : layout_of s' ≡ l'
  -- each has its mark, or neither does
  pub marked : mark_at s' 0 l'.yard.mark ≡ mark_at s 0 l.yard.mark
  -- there is room for the same ceilings
  pub fewest : l'.fewest ≡ l.fewest
  pub slots : l'.slots ≡ l.slots
  -- n, p and the ranks are the same
  pub stations : stations_in s' ≡ stations_in s
  pub ceilings : ceilings_in s' ≡ ceilings_in s
  pub ranks : ranks_in l' s' ≡ ranks_in l s
  -- the link count is right in both, or wrong
  pub count : bad_count s' l' (link_count l s) ≡ bad_count s l (link_count l s)
  -- the same stations rest
  pub rest : rest_in l' s' ≡ rest_in l s
  -- the link records are of one form, as many, and the same
  pub form : l'.link ≡ l.link
  pub bytes : ℕ
  pub size : length s ≡ l.yard.size + bytes
  pub size' : length s' ≡ l'.yard.size + bytes
  pub records : Moved s l.yard.size s' l'.yard.size
