-- What an executable's code and segments are refused for, one test a check (gABI, "Section Header",
-- "Program Loading").
use Rattle.std.specs.Prelude.{ℕ, ◌+◌, ◌*◌, ◌%◌, ◌==◌, Bool, false, not, ◌&&◌, ◌||◌, List, [], ◌∷◌, ◌++◌, map, filter}
use Rattle.std.specs.Prelude.{find, take, drop, Option, Some, None, nat_le, nat_lt, bytes_eq}
use Rattle.std.specs.List.{list_any}
use Rattle.rv_isa.specs.declared.Instr.{Instr}
use Rattle.rv_isa.specs.Names.{names_register}
use Rattle.rv_isa.specs.Table.{decoded}
use Rattle.elf_spec.specs.declared.Section.{Section}
use Rattle.elf_spec.specs.declared.Segment.{Segment}
use Rattle.elf_spec.specs.Code.{code_word}
use Rattle.elf_spec.specs.Fields.{is_set}
use Rattle.elf_spec.specs.Memory.{is_loaded}
use Rattle.elf_spec.specs.Records.{e_phnum, e_phoff, e_shnum, e_shoff, sections_of}
use Rattle.elf_spec.specs.Relocations.{is_kept_rela}
use Rattle.elf_spec.specs.Tables.{is_symtab, strings_of}
use Rattle.elf_read.specs.Checks.{is_shared}
use Rattle.new_file_spec.specs.Rewritten.{mark}

-- a section begins in the middle of a word of four bytes, or ends there
abbrev pub is_not_words : Section → Bool
is_not_words s = not (s.addr % 4 == 0) || not (s.size % 4 == 0)

-- the segment is loaded with the flag X (1), and its file part has all of the section, at the offset
-- that the section's address gives
abbrev pub is_place_of : Section → Segment → Bool
is_place_of s g =
    is_loaded g
    && (is_set 1 g.flags && ((nat_le g.vaddr s.addr && nat_le (s.addr + s.size) (g.vaddr + g.file_size))
    && (s.offset + g.vaddr == g.offset + s.addr)))

abbrev pub sections_in : Option Section → List Section
sections_in (Some s) = s ∷ []
sections_in None = []

-- the offsets and sizes of what describes the file: its header, the header tables, the symbol table
-- with its strings, and the kept relocation entries
unfoldable pub descriptions : List ℕ → List (ℕ × ℕ)
descriptions file =
    let sections : List Section = sections_of file in
    let table : Option Section = find is_symtab sections in
    (0, 52) ∷ (e_phoff file, 32 * e_phnum file) ∷ (e_shoff file, 40 * e_shnum file)
    ∷ map (λ s. (s.offset, s.size)) (sections_in table ++ sections_in (strings_of sections table)
    ++ filter (is_kept_rela sections) sections)

-- some byte of the section describes the file
abbrev pub is_in_descriptions : List ℕ → Section → Bool
is_in_descriptions file s = list_any (λ d. is_shared s.offset s.size d.0 d.1) (descriptions file)

-- the file part of a loaded segment begins with the sixteen bytes of a new text
abbrev pub has_mark : List ℕ → Segment → Bool
has_mark file g = is_loaded g && (nat_le 16 g.file_size && bytes_eq (take 16 (drop g.offset file)) mark)

abbrev pub ends_above : ℕ → Segment → Bool
ends_above limit g = is_loaded g && nat_lt limit (g.vaddr + g.mem_size)

-- the instruction names x4 in a register field
abbrev pub names_tp : Option Instr → Bool
names_tp (Some i) = names_register i 4
names_tp None = false

abbrev pub is_tp_word : Option ℕ → Bool
is_tp_word (Some word) = names_tp (decoded word)
is_tp_word None = false

-- the word of the code at an address is an instruction that names x4
unfoldable pub uses_tp_at : List ℕ → ℕ → Bool
uses_tp_at file a = is_tp_word (code_word file a)
