-- `index_building::entries::write_numbers` meets its contract. The invariant: the first r numbers are written.
use Rattle.std.proofs.Common.{◌≡◌, length}
use Rattle.network.specs.Bytes.{little_endian}
use Rattle.encoding.specs.Fields.{Written}
use Rattle.index_building.proofs.entries.write_numbers.Given as goal

abbrev pub invariant-loop-r : goal.invariant-loop-r
invariant-loop-r l = Written (little_endian 2) l.numbers 0 l.initial.index l.index l.r × (length l.index ≡ length l.initial.index)
