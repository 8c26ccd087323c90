-- What the relocations of a file are read as.
use Rattle.std.specs.Prelude.{ℕ, List, Result}
use Rattle.first_check.specs.Answers.{GivesOrRefuses}
use Rattle.elf_spec.specs.declared.Reloc.{Reloc}
use Rattle.elf_spec.specs.Relocations.{relocs_of}
use Rattle.reloc_table.specs.declared.refusals.RelocRefusal.{RelocRefusal}
use Rattle.reloc_table.specs.declared.refusals.RelocRefusal.TheVariants.{Memory}
use Rattle.reloc_table.specs.Refusals.{reloc_refusal}

-- all kept entries in order of section and entry, or the first check that fails; memory may lack
abbrev pub GivesRelocs : Result (List Reloc) RelocRefusal → List ℕ → Type 0
GivesRelocs result file = GivesOrRefuses Memory result (reloc_refusal file) (relocs_of file)
