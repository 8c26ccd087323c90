-- The answer is among the sections that are left.
use Rattle.std.proofs.Common.{◌≡◌, drop}
use Rattle.first_check.specs.First.{first_from}
use Rattle.reloc_table.specs.Refusals.{kept_refusal}
use Rattle.reloc_table.proofs.read.check_entries.Given as goal

abbrev pub invariant-loop-i : goal.invariant-loop-i
invariant-loop-i l =
    first_from (kept_refusal l.file l.symbols l.sections) l.i (drop l.i l.sections)
    ≡ first_from (kept_refusal l.file l.symbols l.sections) 0 l.sections
