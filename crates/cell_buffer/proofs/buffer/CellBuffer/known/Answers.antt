use Rattle.std.proofs.Common.{length, ap, arith}
use Rattle.cell_buffer.proofs.EntryLaws.{bytes_of_cells}
use Rattle.cell_buffer.proofs.buffer.CellBuffer.known.Goals as goal

pub byte_at-requires-clause-inside : goal.byte_at-requires-clause-inside
byte_at-requires-clause-inside c =
    let n = bytes_of_cells _ c.self.invariant in
    let v = ap length c.self.view_is in
    let d = ap length c.deref.ensures.value in
    omega (arith, n, v, d)
