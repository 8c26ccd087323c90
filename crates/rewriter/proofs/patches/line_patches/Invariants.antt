-- The patches so far, and those of the lines that are left, are all.
use Rattle.std.proofs.Common.{◌≡◌, ◌++◌, drop}
use Rattle.new_file_spec.specs.Rewritten.{patches_from}
use Rattle.rewriter.proofs.patches.line_patches.Given as goal

abbrev pub invariant-loop-number : goal.invariant-loop-number
invariant-loop-number l = record {
  done : l.patches.items ++ patches_from l.image l.number (drop l.number l.lines) ≡ patches_from l.image 0 l.lines;
}
