-- The ends of the segments that are left are missing.
use Rattle.std.proofs.Common.{◌≡◌, ◌+◌, drop, filter, max}
use Rattle.std.specs.List.{fold}
use Rattle.elf_spec.specs.Memory.{image_end, is_loaded}
use Rattle.exec_image.proofs.segments.image_end.Given as goal

abbrev pub invariant-loop-g : goal.invariant-loop-g
invariant-loop-g l = fold (λ end s. max end (s.vaddr + s.mem_size)) l.end (filter is_loaded (drop l.g-index l.segments))
    ≡ image_end l.segments
