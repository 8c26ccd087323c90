-- The new file of an accepted file with patches in its executable sections is readable.
use Rattle.std.proofs.Common.{ℕ, ◌+◌, ◌≤◌, List, length}
use Rattle.std.specs.List.{All}
use Rattle.elf_spec.specs.declared.NewSegment.{NewSegment}
use Rattle.elf_spec.specs.declared.Patch.{Patch}
use Rattle.elf_spec.specs.NewFile.{new_file}
use Rattle.elf_spec.specs.Records.{e_phnum}
use Rattle.elf_read.specs.Elf.{IsReadable}
use Rattle.elf_write.specs.Inputs.{IsInside}
use Rattle.elf_write.specs.Kept.{AreFieldsAlone, AreTablesUnpatched, DoHeadersPass}
use Rattle.exec_image.specs.Accepted.{AcceptedFacts}
use Rattle.new_file_laws.specs.Parts.{IsInCode}
use Rattle.new_file_laws.proofs.CodeWords.{section_alone, section_behind, section_inside, tables_left}
use Rattle.std.proofs.lemmas.List.Elements.{All-weaker}

-- a new file is read again, as elf_write's law has it
abbrev pub AreReadAgain : Type 0
AreReadAgain = (file : List ℕ) (patches : List Patch) (segments : List NewSegment) → IsReadable file
    → All (IsInside (length file)) patches → All (λ p. 52 ≤ p.offset) patches
    → e_phnum file + length segments ≤ 100 → AreTablesUnpatched file patches → AreFieldsAlone file
    → DoHeadersPass file segments → IsReadable (new_file file patches segments)

pub readable_again : AreReadAgain → (file : List ℕ) (patches : List Patch) (segments : List NewSegment)
    → AcceptedFacts file → All (IsInCode file) patches
    → AreFieldsAlone file → e_phnum file + length segments ≤ 100 → DoHeadersPass file segments
    → IsReadable (new_file file patches segments)
readable_again again file patches segments facts codes alone few pass =
    again file patches segments facts.readable
    (All-weaker (IsInCode file) (IsInside (length file)) (section_inside file facts) patches codes)
    (All-weaker (IsInCode file) (λ p. 52 ≤ p.offset) (section_behind file facts) patches codes) few
    (tables_left (IsInCode file) file patches (section_alone file facts) codes) alone pass
