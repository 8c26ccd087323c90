-- How many headers the reading of a file has.
use Rattle.std.proofs.Common.{◌≡◌, ◌<◌, ◌^◌, ℕ, List, length}
use Rattle.elf_spec.specs.Records.{e_phnum, e_shnum}
use Rattle.elf_read.specs.declared.elf_file.Elf.{Elf}
use Rattle.elf_read.specs.Elf.{IsReadFrom}

pub count_sections : (elf : Elf) (file : List ℕ) → IsReadFrom elf file → length elf.sections ≡ e_shnum file
count_sections elf file h = rw h.fields h.facts.section_count

pub count_segments : (elf : Elf) (file : List ℕ) → IsReadFrom elf file → length elf.segments ≡ e_phnum file
count_segments elf file h = rw h.fields h.facts.segment_count

pub few_sections : (elf : Elf) (file : List ℕ) → IsReadFrom elf file → length elf.sections < 2 ^ 32
few_sections elf file h = h.few_sections
