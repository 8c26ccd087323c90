-- What contracts see of the memory of a program, and the bytes of buffers in it one by one.
use Rattle.std.specs.Prelude.{◌≡◌, ℕ, ◌+◌, ◌^◌, ◌<◌, List, Bool, Option, Some, None, slice_get}
use Rattle.elf_spec.specs.Memory.{image_end}
use Rattle.elf_spec.specs.Records.{segments_of}
use Rattle.plan_core.specs.declared.types.Plan.{Plan}
use Rattle.place_spec.specs.Layout.{Layout}
use Rattle.sym_value.specs.declared.Value.{Value}
use Rattle.sym_value.specs.declared.Value.TheVariants.{Num, Ptr}
use Rattle.sym_cells.specs.Cells.{cell_in, mark_at}
use Rattle.sym_cells.specs.Memory.{Block, Memory, cell_at, number_in}
use Rattle.sym_cells.specs.Buffers.{stored_each}
use Rattle.sym_spec.specs.Plain.{is_plain, is_plain_store}
use Rattle.sym_memory.specs.declared.parts.PlainPart.{PlainPart}
use Rattle.sym_memory.specs.Parts.{is_plain_in, is_storable_in}
use Rattle.sym_memory.specs.Held.{memory_after}

-- the file whose plain bytes can be reached, the plan by which blocks are placed, the memory, the layout of
-- the heap, and the address that each block got
pub record HeldMemory : Type 0 where
  pub file : List ℕ
  pub plan : Plan
  pub memory : Memory
  pub layout : Layout
  pub at : List ℕ

-- the plain bytes are those of the file, and numbers below its image's end are below each block
pub record IsOfFile (file : List ℕ) (parts : List PlainPart) (end : ℕ) : Type 0 where
  pub plain : is_plain_in parts ≡ is_plain file
  pub storable : is_storable_in parts ≡ is_plain_store file
  pub end_is : end ≡ image_end (segments_of file)

-- the byte that is i behind the one that a value reaches
abbrev pub behind_by : ℕ → Value → Value
behind_by i (Num a) = Num (a + i)
behind_by i (Ptr b o) = Ptr b (o + i)
behind_by i p = p

-- an address or an offset that is a word
abbrev pub IsLow : Value → Type 0
IsLow (Num a) = a < 2 ^ 32
IsLow (Ptr b o) = o < 2 ^ 32
IsLow v = Unit {0}

-- the number of that byte, where it is known
abbrev pub number_in_block : ℕ → Option Block → Option ℕ
number_in_block o (Some k) = number_in (mark_at (cell_in k.cells) o)
number_in_block o None = None

abbrev pub number_at : Memory → Value → ℕ → Option ℕ
number_at m (Num a) i = number_in (mark_at (cell_at m.plain) (a + i))
number_at m (Ptr b o) i = number_in_block (o + i) (slice_get m.blocks b)
number_at m p i = None

-- memory with some bytes from a value on
abbrev pub put_from : (ℕ → Bool) → List ℕ → Value → Memory → Memory
put_from storable bytes p m = memory_after (stored_each storable bytes p m) m
