-- The parts and cells of plain memory at the start, out of what an image holds.
use Rattle.std.specs.Prelude.{◌≡◌, ℕ, ◌+◌, ◌-◌, ◌*◌, ◌≤◌, List, Bool, true, ◌&&◌, min, nat_le, nat_lt, if◌then◌else◌}
use Rattle.elf_spec.specs.declared.Segment.{Segment}
use Rattle.elf_spec.specs.Fields.{is_set}
use Rattle.elf_spec.specs.Memory.{is_loaded}
use Rattle.machine_spec.specs.Memory.{Range, stack_start, stack_size, byte_of}
use Rattle.exec_image.specs.declared.execs.Exec.{Exec}
use Rattle.sym_cells.specs.declared.Mark.{Mark}
use Rattle.sym_cells.specs.declared.Mark.TheVariants.{Blank}
use Rattle.sym_cells.specs.Cells.{Cell, Bytes}
use Rattle.sym_spec.specs.StartMemory.{mark_of}
use Rattle.sym_memory.specs.declared.parts.PlainPart.{PlainPart}
use Rattle.sym_memory.specs.Parts.{is_plain_in}

-- what a loaded segment takes, and the stack
abbrev pub segment_part : Segment → PlainPart
segment_part s = record { start = s.vaddr; end = s.vaddr + s.mem_size; writable = is_set 2 s.flags }

abbrev pub stack_part : PlainPart
stack_part = record { start = stack_start; end = stack_start + stack_size; writable = true }

-- where the bytes at the first 52 file offsets end in a segment: at its start where it has none
abbrev pub header_end : Segment → ℕ
header_end s = if is_loaded s then s.vaddr + min (min s.mem_size s.file_size) (52 - s.offset) else s.vaddr

abbrev pub is_in_exec : ℕ → Exec → Bool
is_in_exec a e = nat_le e.addr a && nat_lt a (e.addr + e.size)

-- the byte at an address, where it is plain
abbrev pub mark_in_memory : List PlainPart → List Range → ℕ → Mark
mark_in_memory parts memory a = if is_plain_in parts a then mark_of (byte_of memory a) else Blank

abbrev pub cell_in_memory : List PlainPart → List Range → ℕ → Cell
cell_in_memory parts memory k =
    Bytes (mark_in_memory parts memory (4 * k)) (mark_in_memory parts memory (4 * k + 1))
    (mark_in_memory parts memory (4 * k + 2)) (mark_in_memory parts memory (4 * k + 3))

-- a loaded segment ends where the stack begins, or below
abbrev pub EndsLow : Segment → Type 0
EndsLow s = is_loaded s ≡ true → s.vaddr + s.mem_size ≤ stack_start
