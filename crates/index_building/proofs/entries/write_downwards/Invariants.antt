-- `index_building::entries::write_downwards` meets its contract. The invariant: the first r numbers are written.
use Rattle.std.proofs.Common.{◌≡◌, length}
use Rattle.network.specs.Bytes.{little_endian}
use Rattle.encoding.specs.Fields.{Written}
use Rattle.index_building.specs.Entries.{downwards}
use Rattle.index_building.proofs.entries.write_downwards.Given as goal

abbrev pub invariant-loop-r : goal.invariant-loop-r
invariant-loop-r l =
    Written (little_endian 2) (downwards l.count) 0 l.initial.index l.index l.r × (length l.index ≡ length l.initial.index)
