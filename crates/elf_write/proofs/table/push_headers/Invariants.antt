use Rattle.std.proofs.Common.{◌≡◌, ◌+◌, ◌*◌, ◌≤◌, ◌++◌, drop, length}
use Rattle.elf_spec.specs.NewFile.{new_headers}
use Rattle.elf_write.proofs.table.push_headers.Given as goal

-- the bytes so far and the headers that are left are the whole
abbrev pub invariant-loop-segment : goal.invariant-loop-segment
invariant-loop-segment l = record {
  done : l.out.items ++ new_headers l.at (drop l.segment-index l.segments) ≡ l.fn.out.items
      ++ new_headers l.end l.segments;
  long : length l.out.items ≡ length l.fn.out.items + 32 * l.segment-index;
  low : l.at ≤ 33600000 + 70000 * l.segment-index;
}
