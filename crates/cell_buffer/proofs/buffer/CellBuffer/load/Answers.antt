use Rattle.std.proofs.Common.{length, ap, arith}
use Rattle.cell_buffer.proofs.EntryLaws.{bytes_of_cells}
use Rattle.cell_buffer.proofs.buffer.CellBuffer.load.Goals as goal

pub load_in-requires-clause-access : goal.load_in-requires-clause-access
load_in-requires-clause-access c =
    let n = bytes_of_cells _ c.self.invariant in
    let v = ap length c.self.view_is in
    let d = ap length c.deref.ensures.value in
    let h = c.requires.1 in
    (c.requires.0, omega (arith, n, v, d, h))
