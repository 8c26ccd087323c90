-- What a readable file is read as.
use Rattle.std.specs.Prelude.{◌≡◌, ℕ, ◌<◌, ◌^◌, List, None, length, Result}
use Rattle.first_check.specs.Answers.{GivesOrRefuses}
use Rattle.elf_read.specs.declared.elf_file.Elf.{Elf}
use Rattle.elf_read.specs.declared.refusals.ElfRefusal.{ElfRefusal}
use Rattle.elf_read.specs.declared.refusals.ElfRefusal.TheVariants.{Memory}
use Rattle.elf_spec.specs.Records.{e_entry, e_flags, e_phoff, e_shoff, sections_of, segments_of}
use Rattle.elf_spec.specs.Tables.{symbols_of}
use Rattle.elf_read.specs.Readable.{ReadableFacts}
use Rattle.elf_read.specs.Refusals.{refusal}

-- no check refuses the file
abbrev pub IsReadable : List ℕ → Type 0
IsReadable file = refusal file ≡ None

-- the fields of the header, and all headers and symbols in the file's order
abbrev pub elf_of : List ℕ → Elf
elf_of file = record {
  entry = e_entry file;
  phoff = e_phoff file;
  shoff = e_shoff file;
  flags = e_flags file;
  segments = segments_of file;
  sections = sections_of file;
  symbols = symbols_of file;
}

-- a readable file is read, another is refused for the first check that it fails; memory may lack
abbrev pub Gives : Result Elf ElfRefusal → List ℕ → Type 0
Gives result file = GivesOrRefuses Memory result (refusal file) (elf_of file)

-- the headers and symbols were read from the file, which is readable
pub record IsReadFrom (elf : Elf) (file : List ℕ) : Type 0 where
  pub short : length file < 2 ^ 32
  pub readable : IsReadable file
  pub fields : elf ≡ elf_of file
  pub facts : ReadableFacts file
  pub few_sections : length elf.sections < 2 ^ 32
