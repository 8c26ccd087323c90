use Rattle.std.proofs.Common.{length, ap, arith}
use Rattle.cell_buffer.proofs.EntryLaws.{bytes_of_cells}
use Rattle.cell_buffer.proofs.buffer.CellBuffer.store.Goals as goal

pub store_in-requires-clause-access : goal.store_in-requires-clause-access
store_in-requires-clause-access c =
    let n = bytes_of_cells _ c.self.invariant in
    let v = ap length c.self.view_is in
    let d = ap length c.deref_mut.ensures.value in
    let h = c.requires.1 in
    (c.requires.0, omega (arith, n, v, d, h))
