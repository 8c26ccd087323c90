-- The cells so far.
use Rattle.std.proofs.Common.{◌≡◌, ◌-◌}
use Rattle.sym_spec.specs.StartMemory.{cells_from}
use Rattle.sym_memory.specs.Starting.{cell_in_memory}
use Rattle.sym_memory.proofs.image_spans.span_over.Given as goal

abbrev pub invariant-loop-cell : goal.invariant-loop-cell
invariant-loop-cell l = l.cells ≡ cells_from (cell_in_memory l.parts l.memory) l.first (l.cell - l.first)
