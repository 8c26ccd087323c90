-- Where the bytes of memory stand in a file, by its program headers (gABI, "Program Loading").
use Rattle.std.specs.Prelude.{ℕ, ◌+◌, ◌-◌, List, [], ◌∷◌, Bool, ◌&&◌, if◌then◌else◌, Option, Some, None, nat_le, nat_lt}
use Rattle.elf_spec.specs.declared.Segment.{Segment}
use Rattle.elf_spec.specs.Fields.{byte_at}
use Rattle.elf_spec.specs.Memory.{is_loaded}

-- where a byte of memory comes from: an offset in the file, or the zero fill behind a file part
pub data Source : Type 0 where
  InFile : (offset : ℕ) → Source
  Zero : Source

-- the address lies in n bytes from a start on
abbrev pub is_between : ℕ → ℕ → ℕ → Bool
is_between start n a = nat_le start a && nat_lt a (start + n)

-- the place in one loaded segment
abbrev pub place_in : Segment → ℕ → Source
place_in h a = if nat_lt (a - h.vaddr) h.file_size then InFile (h.offset + (a - h.vaddr)) else Zero

-- the place of the byte at an address, in the first loaded segment that holds the address
abbrev pub place_at : List Segment → ℕ → Option Source
place_at [] a = None
place_at (h ∷ hs) a = if is_loaded h && is_between h.vaddr h.mem_size a then Some (place_in h a) else place_at hs a

abbrev pub byte_in : List ℕ → Source → ℕ
byte_in file (InFile offset) = byte_at file offset
byte_in file Zero = 0
