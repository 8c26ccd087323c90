-- What a file, a segment, a section or a name is refused for, one test a check (gABI, "ELF
-- Identification", "ELF Header", "Program Header", "Section Header", "Symbol Table").
use Rattle.std.specs.Prelude.{ℕ, ◌+◌, ◌-◌, ◌*◌, ◌%◌, ◌==◌, Bool, false, not, ◌&&◌, ◌||◌, List, [], ◌∷◌, length, take}
use Rattle.std.specs.Prelude.{drop, Option, Some, None, nat_lt, bytes_eq, bit_and, slice_get, if◌then◌else◌}
use Rattle.std.specs.List.{list_any}
use Rattle.elf_spec.specs.declared.Segment.{Segment}
use Rattle.elf_spec.specs.declared.Section.{Section}
use Rattle.elf_spec.specs.Fields.{byte_at}
use Rattle.elf_spec.specs.Memory.{is_loaded}
use Rattle.elf_spec.specs.Records.{e_flags, e_phentsize, e_phnum, e_phoff, e_shentsize, e_shnum, e_shoff, e_version}

-- the file has a whole header with the magic number
abbrev pub has_header : List ℕ → Bool
has_header file = not (nat_lt (length file) 52) && bytes_eq (take 4 file) (0x7f ∷ 0x45 ∷ 0x4c ∷ 0x46 ∷ [])

abbrev pub has_version : List ℕ → Bool
has_version file = (byte_at file 6 == 1) && (e_version file == 1)

-- compressed code (1), a float ABI (6) or RV32E (8)
abbrev pub has_bad_flags : List ℕ → Bool
has_bad_flags file = not (bit_and (e_flags file) 15 == 0)

-- a table with entries has them of the right size, and inside the file
abbrev pub is_table_out : ℕ → ℕ → ℕ → ℕ → ℕ → Bool
is_table_out bytes size offset entry_size count =
    not (count == 0) && (not (entry_size == size) || nat_lt bytes (offset + size * count))

abbrev pub is_program_table_out : List ℕ → Bool
is_program_table_out file = is_table_out (length file) 32 (e_phoff file) (e_phentsize file) (e_phnum file)

abbrev pub is_section_table_out : List ℕ → Bool
is_section_table_out file = is_table_out (length file) 40 (e_shoff file) (e_shentsize file) (e_shnum file)

-- PT_DYNAMIC, PT_INTERP, PT_PHDR or PT_TLS
abbrev pub is_refused_kind : ℕ → Bool
is_refused_kind kind = (kind == 2) || ((kind == 3) || ((kind == 6) || (kind == 7)))

-- a loaded segment in a file of so many bytes
abbrev pub is_segment_out : ℕ → Segment → Bool
is_segment_out bytes s =
    is_loaded s && (nat_lt s.mem_size s.file_size || (nat_lt bytes (s.offset + s.file_size) || nat_lt 0x7ff00000
    (s.vaddr + s.mem_size)))

-- two ranges, each given by its start and size, have a number in common
abbrev pub is_shared : ℕ → ℕ → ℕ → ℕ → Bool
is_shared a m b n = (nat_lt 0 m && nat_lt 0 n) && (nat_lt a (b + n) && nat_lt b (a + m))

-- two loaded segments have an address or a file byte in common
abbrev pub meets : Segment → Segment → Bool
meets s t =
    (is_loaded s && is_loaded t)
    && (is_shared s.vaddr s.mem_size t.vaddr t.mem_size || is_shared s.offset s.file_size t.offset t.file_size)

-- the memory of a PT_LOAD segment
abbrev pub load_size : Segment → ℕ
load_size s = if s.kind == 1 then s.mem_size else 0

-- a section with bytes in the file, in a file of so many (SHT_NULL 0 and SHT_NOBITS 8 have none)
abbrev pub leaves_file : ℕ → Section → Bool
leaves_file bytes s = not (s.kind == 0) && (not (s.kind == 8) && nat_lt bytes (s.offset + s.size))

-- SHT_STRTAB
abbrev pub is_strtab : Option Section → Bool
is_strtab (Some s) = s.kind == 3
is_strtab None = false

-- the symbol table has whole entries and its strings are a string table
abbrev pub is_bad_table : List Section → Section → Bool
is_bad_table sections s =
    not (s.entry_size == 16) || (not (s.size % 16 == 0) || not (is_strtab (slice_get sections s.link)))

-- a name that begins here in the strings has a zero byte in them, at its end
abbrev pub is_ended : List ℕ → Section → ℕ → Bool
is_ended file strings name = list_any (λ b. b == 0) (take (strings.size - name) (drop (strings.offset + name) file))

abbrev pub is_name_out : List ℕ → Section → ℕ → Bool
is_name_out file strings name = not (name == 0) && not (is_ended file strings name)
