-- The text so far, and the stubs of the lines that are left, are all.
use Rattle.std.proofs.Common.{◌≡◌, ◌+◌, ◌*◌, ◌≤◌, ◌++◌, drop, length}
use Rattle.new_file_spec.specs.Rewritten.{mark, stubs_from}
use Rattle.rewriter.proofs.text.line_bytes.Given as goal

abbrev pub invariant-loop-number : goal.invariant-loop-number
invariant-loop-number l = record {
  done : l.text.items ++ stubs_from l.image l.number (drop l.number l.lines) ≡ mark ++ stubs_from l.image 0 l.lines;
  short : length l.text.items ≤ 16 + 44 * l.number;
}
