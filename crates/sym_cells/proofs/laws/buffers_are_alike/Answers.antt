use Rattle.sym_cells.proofs.BufferLaw.{writes_alike, reads_alike}
use Rattle.sym_cells.proofs.laws.buffers_are_alike.Goals as goal

pub returns : goal.returns
returns c = record { writes = writes_alike; reads = reads_alike }
