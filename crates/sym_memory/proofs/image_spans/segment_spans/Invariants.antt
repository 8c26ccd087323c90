-- The spans of the segments so far.
use Rattle.std.proofs.Common.{◌≡◌, take}
use Rattle.std.specs.Prelude.{map, filter}
use Rattle.elf_spec.specs.Memory.{is_loaded}
use Rattle.sym_spec.specs.StartMemory.{segment_span}
use Rattle.sym_memory.specs.Parts.{spans_of}
use Rattle.sym_memory.specs.Starting.{cell_in_memory}
use Rattle.sym_memory.proofs.image_spans.segment_spans.Given as goal

abbrev pub invariant-loop-segment : goal.invariant-loop-segment
invariant-loop-segment l = spans_of l.spans.items
    ≡ map (segment_span (cell_in_memory l.parts l.memory)) (filter is_loaded (take l.segment-index l.segments))
