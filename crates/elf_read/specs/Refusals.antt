-- Why a file is refused: the first check that it fails, with its item, and the lowest index.
use Rattle.std.specs.Prelude.{ℕ, ◌+◌, ◌*◌, ◌/◌, ◌==◌, not, ◌&&◌, ◌||◌, List, length, take, Option, Some, None}
use Rattle.std.specs.Prelude.{option_map, position, find, sum_by, nat_lt}
use Rattle.std.specs.List.{list_any}
use Rattle.first_check.specs.First.{◌or_else◌, when, first_below, first_item}
use Rattle.elf_read.specs.declared.refusals.ElfRefusal.{ElfRefusal}
use Rattle.elf_read.specs.declared.refusals.ElfRefusal.TheVariants.{NotElf, WrongClass, WrongOrder, WrongVersion}
use Rattle.elf_read.specs.declared.refusals.ElfRefusal.TheVariants.{NotExec, NotRiscv, Flags, TableOut, TooMany}
use Rattle.elf_read.specs.declared.refusals.ElfRefusal.TheVariants.{SegmentKind, SegmentOut, SegmentOverlap, TooLarge}
use Rattle.elf_read.specs.declared.refusals.ElfRefusal.TheVariants.{SectionOut, NameOut}
use Rattle.elf_read.specs.declared.refusals.Table.TheVariants.{Program, Section as SectionTable}
use Rattle.elf_spec.specs.declared.Segment.{Segment}
use Rattle.elf_spec.specs.declared.Section.{Section}
use Rattle.elf_spec.specs.Fields.{byte_at, word_at}
use Rattle.elf_spec.specs.Records.{e_flags, e_machine, e_phnum, e_type, sections_of, segments_of}
use Rattle.elf_spec.specs.Relocations.{is_at}
use Rattle.elf_spec.specs.Tables.{is_symtab, strings_of, symtab_index}
use Rattle.elf_read.specs.Checks.{has_bad_flags, has_header, has_version, is_bad_table, is_name_out}
use Rattle.elf_read.specs.Checks.{is_program_table_out, is_refused_kind, is_section_table_out, is_segment_out}
use Rattle.elf_read.specs.Checks.{leaves_file, load_size, meets}

-- the checks of the header
abbrev pub not_elf : List ℕ → Option ElfRefusal
not_elf file = when (not (has_header file)) NotElf

abbrev pub wrong_class : List ℕ → Option ElfRefusal
wrong_class file = when (not (byte_at file 4 == 1)) (WrongClass (byte_at file 4))

abbrev pub wrong_order : List ℕ → Option ElfRefusal
wrong_order file = when (not (byte_at file 5 == 1)) (WrongOrder (byte_at file 5))

abbrev pub wrong_version : List ℕ → Option ElfRefusal
wrong_version file = when (not (has_version file)) WrongVersion

abbrev pub not_exec : List ℕ → Option ElfRefusal
not_exec file = when (not (e_type file == 2)) (NotExec (e_type file))

abbrev pub not_riscv : List ℕ → Option ElfRefusal
not_riscv file = when (not (e_machine file == 243)) (NotRiscv (e_machine file))

abbrev pub bad_flags : List ℕ → Option ElfRefusal
bad_flags file = when (has_bad_flags file) (Flags (e_flags file))

abbrev pub program_table_out : List ℕ → Option ElfRefusal
program_table_out file = when (is_program_table_out file) (TableOut Program)

abbrev pub section_table_out : List ℕ → Option ElfRefusal
section_table_out file = when (is_section_table_out file) (TableOut SectionTable)

abbrev pub too_many : List ℕ → Option ElfRefusal
too_many file = when (nat_lt 100 (e_phnum file)) (TooMany (e_phnum file))

unfoldable pub header_refusal : List ℕ → Option ElfRefusal
header_refusal file =
    not_elf file or_else wrong_class file or_else wrong_order file or_else wrong_version file or_else not_exec file
    or_else not_riscv file or_else bad_flags file or_else program_table_out file or_else section_table_out file
    or_else too_many file

-- a segment of a kind that is not run, told with its index
abbrev pub kind_refusal : ℕ → Segment → Option ElfRefusal
kind_refusal i s = when (is_refused_kind s.kind) (SegmentKind i s.kind)

unfoldable pub segment_kind : List Segment → Option ElfRefusal
segment_kind segments = first_item kind_refusal segments

unfoldable pub segment_out : ℕ → List Segment → Option ElfRefusal
segment_out bytes segments = option_map SegmentOut (position (is_segment_out bytes) segments)

-- a segment that meets one before it
abbrev pub overlap_refusal : List Segment → ℕ → Segment → Option ElfRefusal
overlap_refusal segments i s = when (list_any (λ t. meets t s) (take i segments)) (SegmentOverlap i)

unfoldable pub segment_overlap : List Segment → Option ElfRefusal
segment_overlap segments = first_item (overlap_refusal segments) segments

abbrev pub memory_size : List Segment → ℕ
memory_size segments = sum_by load_size segments

unfoldable pub too_large : List Segment → Option ElfRefusal
too_large segments = when (nat_lt 134217728 (memory_size segments)) (TooLarge (memory_size segments))

-- a section that leaves the file, or that is the symbol table and is none
abbrev pub section_refusal : ℕ → List Section → ℕ → Section → Option ElfRefusal
section_refusal bytes sections i s =
    when (leaves_file bytes s || (is_at (symtab_index sections) i && is_bad_table sections s)) (SectionOut i)

unfoldable pub section_out : ℕ → List Section → Option ElfRefusal
section_out bytes sections = first_item (section_refusal bytes sections) sections

-- the first symbol whose name is not in the strings
abbrev pub name_out_in : List ℕ → Option Section → Option Section → Option ElfRefusal
name_out_in file (Some table) (Some strings) =
    option_map NameOut (first_below (λ i. is_name_out file strings (word_at file (table.offset + 16 * i)))
    (table.size / 16))
name_out_in file _ _ = None

unfoldable pub name_out : List ℕ → List Section → Option ElfRefusal
name_out file sections =
    let table : Option Section = find is_symtab sections in
    name_out_in file table (strings_of sections table)

-- all checks, in their order
abbrev pub refusal : List ℕ → Option ElfRefusal
refusal file =
    header_refusal file
    or_else segment_kind (segments_of file) or_else segment_out (length file) (segments_of file)
    or_else segment_overlap (segments_of file) or_else too_large (segments_of file)
    or_else section_out (length file) (sections_of file) or_else name_out file (sections_of file)
