-- `planlist_records::head::write_head` meets its contract. Writes one after the other are one write.
use mathlib.Core.Path.{refl}
use mathlib.Core.List.{[], ◌∷◌, ◌++◌}
use Prim.Native.Nat.{◌≤◌}
use native.Mathlib.Omega.{arith}
use lib.ListN.{length}
use Rattle.network.specs.Bytes.{little_endian}
use Rattle.network.specs.PlanList.{head_mark}
use Rattle.buffers.specs.Overwrite.{overwrite-chain}
use Rattle.planlist_records.proofs.head.write_head.Goals as goal

pub returns : goal.returns
returns c =
    let a = c.args in
    let d = a.out.now in
    let fits : 0 ≤ length d = omega arith in
    let n = little_endian 2 a.count in
    let s = little_endian 4 a.solved in
    let e2 = overwrite-chain d 0 head_mark 2 n c.write_u16.ensures c.copy_in.ensures refl fits in
    let e3 = overwrite-chain d 0 (head_mark ++ n) 4 s c.write_u32.ensures e2 refl fits in
    let e4 = overwrite-chain d 0 (head_mark ++ n ++ s) 8 (a.t ∷ []) c.write_u8.ensures e3 refl fits in
    overwrite-chain d 0 (head_mark ++ n ++ s ++ (a.t ∷ [])) 9 (a.p ∷ []) c.write_u8-2.ensures e4 refl fits
