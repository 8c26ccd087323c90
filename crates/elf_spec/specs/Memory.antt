-- The memory that a file's segments take: those of kind PT_LOAD (1) with a size in memory (gABI,
-- "Program Loading").
use Rattle.std.specs.Prelude.{ℕ, ◌+◌, ◌==◌, List, Bool, ◌&&◌, max, fold, filter, nat_lt}
use Rattle.elf_spec.specs.declared.Segment.{Segment}

abbrev pub is_loaded : Segment → Bool
is_loaded s = (s.kind == 1) && nat_lt 0 s.mem_size

-- the greatest end of a loaded segment
abbrev pub image_end : List Segment → ℕ
image_end segments = fold (λ end s. max end (s.vaddr + s.mem_size)) 0 (filter is_loaded segments)
