use Rattle.std.proofs.Common.{ap, ◌∙◌}
use Rattle.cell_buffer.specs.Entries.{cells_of}
use Rattle.cell_buffer.proofs.buffer.CellBuffer.release.Goals as goal

pub returns : goal.returns
unfolding cells_of
returns c = ap cells_of (c.shrink_to_fit.ensures.items ∙ c.clear.ensures.items)
