use Rattle.std.proofs.Common.{◌≡◌, ◌+◌, ◌*◌, ◌≤◌, ◌++◌, drop, length}
use Rattle.elf_spec.specs.NewFile.{contents}
use Rattle.elf_write.proofs.contents.push_contents.Given as goal

-- the bytes so far and the file parts that are left are the whole
abbrev pub invariant-loop-segment : goal.invariant-loop-segment
invariant-loop-segment l = record {
  done : l.out.items ++ contents (length l.out.items) (drop l.segment-index l.segments) ≡ l.fn.out.items
      ++ contents l.end l.segments;
  low : length l.out.items ≤ 33600000 + 70000 * l.segment-index;
}
