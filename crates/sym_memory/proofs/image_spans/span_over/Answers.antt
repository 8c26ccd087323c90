use Rattle.std.proofs.Common.{◌/◌}
use Rattle.sym_memory.specs.Starting.{cell_in_memory}
use Rattle.sym_memory.proofs.StartLaws.{cells_step}
use Rattle.sym_memory.proofs.image_spans.span_over.Goals as goal

pub loop-cell-preserved : goal.loop-cell-preserved
loop-cell-preserved c =
    cells_step (cell_in_memory c.args.parts.now c.args.memory.now) (c.args.start / 4) c.loop-cell.cell c.loop-cell.cells
    c.push_cell.new.cells c.loop-cell.auto.cell c.in_ok-push_cell.ensures c.loop-cell.invariant
