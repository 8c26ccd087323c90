-- The memory with which the symbol machine starts: every plain byte is known, and there are no blocks.
-- Plain memory has a span of cells for each loaded segment and one for the stack.
use Rattle.std.specs.Prelude.{ℕ, zero, suc, ◌+◌, ◌-◌, ◌*◌, ◌/◌, List, [], ◌∷◌, ◌++◌, filter, map, Option, Some, None}
use Rattle.std.specs.Prelude.{if◌then◌else◌}
use Rattle.elf_spec.specs.declared.Segment.{Segment}
use Rattle.elf_spec.specs.Memory.{is_loaded}
use Rattle.elf_spec.specs.Records.{segments_of}
use Rattle.machine_spec.specs.Memory.{stack_start, stack_size, memory_of, byte_of}
use Rattle.sym_cells.specs.declared.Mark.{Mark}
use Rattle.sym_cells.specs.declared.Mark.TheVariants.{Known, Blank}
use Rattle.sym_cells.specs.Cells.{Cell, Bytes}
use Rattle.sym_cells.specs.Memory.{Span, Memory}
use Rattle.sym_spec.specs.Plain.{is_plain}

abbrev pub mark_of : Option ℕ → Mark
mark_of (Some b) = Known b
mark_of None = Blank

-- the byte at an address, where it is plain
abbrev pub start_mark : List ℕ → ℕ → Mark
start_mark file a = if is_plain file a then mark_of (byte_of (memory_of file) a) else Blank

abbrev pub start_cell : List ℕ → ℕ → Cell
start_cell file k =
    Bytes (start_mark file (4 * k)) (start_mark file (4 * k + 1)) (start_mark file (4 * k + 2))
    (start_mark file (4 * k + 3))

-- n cells from a cell number on
abbrev pub cells_from : (ℕ → Cell) → ℕ → ℕ → List Cell
cells_from cell k zero = []
cells_from cell k (suc n) = cell k ∷ cells_from cell (k + 1) n

-- the cells that have a byte of the n from an address on
abbrev pub span_over : (ℕ → Cell) → ℕ → ℕ → Span
span_over cell a n = record { first = a / 4; cells = cells_from cell (a / 4) ((a + n + 3) / 4 - a / 4) }

abbrev pub segment_span : (ℕ → Cell) → Segment → Span
segment_span cell s = span_over cell s.vaddr s.mem_size

unfoldable pub start_memory : List ℕ → Memory
start_memory file = record {
  plain = map (segment_span (start_cell file)) (filter is_loaded (segments_of file))
      ++ span_over (start_cell file) stack_start stack_size ∷ [];
  blocks = [];
}
