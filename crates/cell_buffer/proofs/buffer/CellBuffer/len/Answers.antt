use Rattle.std.proofs.Common.{length, ap, arith}
use Rattle.cell_buffer.proofs.EntryLaws.{bytes_of_cells}
use Rattle.cell_buffer.proofs.buffer.CellBuffer.len.Goals as goal

pub returns : goal.returns
returns c =
    let n = bytes_of_cells _ c.self.invariant in
    let v = ap length c.self.view_is in
    omega (arith, n, v, c.len.ensures)
