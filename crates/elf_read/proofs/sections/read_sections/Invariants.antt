-- The headers so far are read.
use Rattle.std.proofs.Common.{◌≡◌, length}
use Rattle.elf_spec.specs.Records.{entries, section_at}
use Rattle.elf_read.proofs.sections.read_sections.Given as goal

abbrev pub invariant-loop-i : goal.invariant-loop-i
invariant-loop-i l = (l.list ≡ entries (section_at l.file) 40 l.at l.i) × (length l.list ≡ l.i)
