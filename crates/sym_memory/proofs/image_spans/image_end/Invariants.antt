-- The ends of the segments that are left are missing.
use Rattle.std.proofs.Common.{◌≡◌, ◌+◌, drop, filter, max}
use Rattle.std.specs.List.{fold}
use Rattle.elf_spec.specs.Memory.{image_end, is_loaded}
use Rattle.sym_memory.proofs.image_spans.image_end.Given as goal

abbrev pub invariant-loop-segment : goal.invariant-loop-segment
invariant-loop-segment l =
    fold (λ end s. max end (s.vaddr + s.mem_size)) l.end (filter is_loaded (drop l.segment-index l.segments))
    ≡ image_end l.segments
