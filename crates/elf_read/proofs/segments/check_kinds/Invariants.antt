-- The answer is among the segments that are left.
use Rattle.std.proofs.Common.{◌≡◌, drop}
use Rattle.first_check.specs.First.{first_from}
use Rattle.elf_read.specs.Refusals.{kind_refusal}
use Rattle.elf_read.proofs.segments.check_kinds.Given as goal

abbrev pub invariant-loop-i : goal.invariant-loop-i
invariant-loop-i l = first_from kind_refusal l.i (drop l.i l.segments) ≡ first_from kind_refusal 0 l.segments
