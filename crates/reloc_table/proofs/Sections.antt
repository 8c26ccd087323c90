-- The section headers of a file are few.
use Rattle.std.proofs.Common.{◌<◌, ◌^◌, ℕ, List, length}
use Rattle.elf_read.specs.declared.elf_file.Elf.{Elf}
use Rattle.elf_read.specs.Elf.{IsReadFrom}

pub few_sections : (elf : Elf) (file : List ℕ) → IsReadFrom elf file → length elf.sections < 2 ^ 32
few_sections elf file h = h.few_sections
