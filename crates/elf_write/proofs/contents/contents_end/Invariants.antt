use Rattle.std.proofs.Common.{◌≡◌, ◌+◌, ◌*◌, ◌≤◌, drop}
use Rattle.elf_write.specs.Ends.{contents_end}
use Rattle.elf_write.proofs.contents.contents_end.Given as goal

-- the segments that are left end where all of them do
abbrev pub invariant-loop-segment : goal.invariant-loop-segment
invariant-loop-segment l = record {
  done : contents_end l.at (drop l.segment-index l.segments) ≡ contents_end l.end l.segments;
  low : l.at ≤ l.end + 69631 * l.segment-index;
}
