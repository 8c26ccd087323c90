-- The bytes that a program may use as its own: those of the image and of the stack, without the
-- executable sections and without the bytes of the file header (file offsets 0 to 51).
use Rattle.std.specs.Prelude.{ℕ, ◌+◌, ◌-◌, List, Bool, not, ◌&&◌, ◌||◌, nat_le, nat_lt}
use Rattle.std.specs.List.{list_any}
use Rattle.elf_spec.specs.declared.Segment.{Segment}
use Rattle.elf_spec.specs.Fields.{is_set}
use Rattle.elf_spec.specs.Records.{segments_of, sections_of}
use Rattle.elf_spec.specs.Memory.{is_loaded}
use Rattle.machine_spec.specs.Memory.{stack_start, stack_size}
use Rattle.elf_spec.specs.Code.{is_executable, holds_address}

abbrev pub is_stack : ℕ → Bool
is_stack a = nat_le stack_start a && nat_lt a (stack_start + stack_size)

-- the address is in the segment's memory
abbrev pub is_in : ℕ → Segment → Bool
is_in a s = is_loaded s && (nat_le s.vaddr a && nat_lt a (s.vaddr + s.mem_size))

-- the byte at the address is the segment's byte at one of the first 52 file offsets
abbrev pub is_header_byte : ℕ → Segment → Bool
is_header_byte a s = is_in a s && (nat_lt a (s.vaddr + s.file_size) && nat_lt (s.offset + (a - s.vaddr)) 52)

abbrev pub is_code_byte : List ℕ → ℕ → Bool
is_code_byte file a = list_any (λ s. is_executable s && holds_address a s) (sections_of file)

unfoldable pub is_plain : List ℕ → ℕ → Bool
is_plain file a =
    is_stack a
    || (list_any (is_in a) (segments_of file) && (not (is_code_byte file a)
    && not (list_any (is_header_byte a) (segments_of file))))

-- a plain byte that can be stored to: on the stack or in a segment with flag W (2)
unfoldable pub is_plain_store : List ℕ → ℕ → Bool
is_plain_store file a =
    is_plain file a && (is_stack a || list_any (λ s. is_in a s && is_set 2 s.flags) (segments_of file))
