-- The answer is among the sections that are left.
use Rattle.std.proofs.Common.{◌≡◌, drop}
use Rattle.first_check.specs.First.{first_from}
use Rattle.elf_read.specs.Refusals.{section_refusal}
use Rattle.elf_read.proofs.sections.check_sections.Given as goal

abbrev pub invariant-loop-i : goal.invariant-loop-i
invariant-loop-i l =
    first_from (section_refusal l.bytes l.sections) l.i (drop l.i l.sections)
    ≡ first_from (section_refusal l.bytes l.sections) 0 l.sections
