-- The memory of a file (gABI, "Program Loading"): each segment of kind PT_LOAD with a size in memory
-- is a range of addresses, which holds the segment's file part and zeros behind it; and above them
-- stands the stack, which is zero.
use Rattle.std.specs.Prelude.{ℕ, zero, suc, ◌+◌, ◌-◌, List, [], ◌∷◌, ◌++◌, Bool, true, false, ◌&&◌, filter, map, find}
use Rattle.std.specs.Prelude.{Option, option_map, nat_le, nat_lt, take, drop, replicate, length, slice_index}
use Rattle.elf_spec.specs.declared.Segment.{Segment}
use Rattle.elf_spec.specs.Fields.{is_set}
use Rattle.elf_spec.specs.Records.{segments_of}
use Rattle.elf_spec.specs.Memory.{is_loaded}

-- a range of addresses with its bytes, whether it may be stored to and whether its words may be run
pub record Range : Type 0 where
  pub start : ℕ
  pub writable : Bool
  pub executable : Bool
  pub bytes : List ℕ

-- a range without its bytes
pub record Shape : Type 0 where
  pub start : ℕ
  pub size : ℕ
  pub writable : Bool
  pub executable : Bool

abbrev pub shape_of : Range → Shape
shape_of r = record { start = r.start; size = length r.bytes; writable = r.writable; executable = r.executable }

-- the range of a segment: its flags are X 1, W 2 and R 4
abbrev pub range_of : List ℕ → Segment → Range
range_of file s = record {
  start = s.vaddr;
  writable = is_set 2 s.flags;
  executable = is_set 1 s.flags;
  bytes = take s.file_size (drop s.offset file) ++ replicate (s.mem_size - s.file_size) 0;
}

-- the stack: one MiB that ends at 0x80000000
abbrev pub stack_start : ℕ
stack_start = 0x7FF00000

abbrev pub stack_size : ℕ
stack_size = 0x100000

unfoldable pub stack : Range
stack = record { start = stack_start; writable = true; executable = false; bytes = replicate stack_size 0 }

-- the memory with which a file starts
unfoldable pub memory_of : List ℕ → List Range
memory_of file = map (range_of file) (filter is_loaded (segments_of file)) ++ stack ∷ []

-- the range at an address
abbrev pub covers : ℕ → Range → Bool
covers a r = nat_le r.start a && nat_lt a (r.start + length r.bytes)

abbrev pub range_at : List Range → ℕ → Option Range
range_at memory a = find (covers a) memory

-- the byte at an address; none outside memory
unfoldable pub byte_of : List Range → ℕ → Option ℕ
byte_of memory a = option_map (λ r. slice_index r.bytes (a - r.start)) (range_at memory a)

-- each of the n addresses from a on passes
abbrev pub all_from : (ℕ → Bool) → ℕ → ℕ → Bool
all_from test a zero = true
all_from test a (suc n) = test a && all_from test (a + 1) n
