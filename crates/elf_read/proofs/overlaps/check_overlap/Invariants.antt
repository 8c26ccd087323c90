-- The answer is among the segments that are left.
use Rattle.std.proofs.Common.{◌≡◌, drop}
use Rattle.first_check.specs.First.{first_from}
use Rattle.elf_read.specs.Refusals.{overlap_refusal}
use Rattle.elf_read.proofs.overlaps.check_overlap.Given as goal

abbrev pub invariant-loop-i : goal.invariant-loop-i
invariant-loop-i l =
    first_from (overlap_refusal l.segments) l.i (drop l.i l.segments)
    ≡ first_from (overlap_refusal l.segments) 0 l.segments
