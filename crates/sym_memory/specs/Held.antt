-- What contracts see of plain memory, and of the whole.
use Rattle.std.specs.Prelude.{ℕ, List, Option, Some, None}
use Rattle.sym_cells.specs.Memory.{Span, Memory}
use Rattle.sym_memory.specs.declared.parts.PlainPart.{PlainPart}

-- the parts of the address space that are plain, and the spans with their cells
pub record HeldPlain : Type 0 where
  pub parts : List PlainPart
  pub spans : List Span

-- symbol memory, beside the parts that are plain and the end of the image
pub record Held : Type 0 where
  pub memory : Memory
  pub parts : List PlainPart
  pub end : ℕ

-- what a store leaves: the memory after it, or that before where it isn't done
abbrev pub memory_after : Option Memory → Memory → Memory
memory_after (Some after) before = after
memory_after None before = before
