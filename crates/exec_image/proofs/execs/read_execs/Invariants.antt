-- The executable sections among those that are left are missing.
use Rattle.std.proofs.Common.{◌≡◌, ◌++◌, drop}
use Rattle.exec_image.specs.Images.{execs_from}
use Rattle.exec_image.proofs.execs.read_execs.Given as goal

abbrev pub invariant-loop-i : goal.invariant-loop-i
invariant-loop-i l = l.list ++ execs_from l.i (drop l.i l.sections) ≡ execs_from 0 l.sections
