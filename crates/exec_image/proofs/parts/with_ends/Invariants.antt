-- The parts that are left come with the greatest end so far.
use Rattle.std.proofs.Common.{◌≡◌, ◌++◌, drop}
use Rattle.exec_image.specs.Parts.{running}
use Rattle.exec_image.proofs.parts.with_ends.Given as goal

abbrev pub invariant-loop-p : goal.invariant-loop-p
invariant-loop-p l = l.list.items ++ running l.end (drop l.p-index l.parts) ≡ running 0 l.parts
