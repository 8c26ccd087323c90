use Rattle.std.proofs.Common.{◌∙◌}
use Rattle.cell_buffer.proofs.EntryLaws.{word_done}
use Rattle.cell_buffer.proofs.stores.store_return.Goals as goal

pub returns-clause-cells : goal.returns-clause-cells
returns-clause-cells c = c.put_cell.ensures.cells ∙ word_done _ _ _ _ _ _ c.requires.aligned c.requires.inside
