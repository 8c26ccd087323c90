use Rattle.std.proofs.Common.{◌≡◌, ◌++◌, take}
use Rattle.std.specs.List.{flat_map}
use Rattle.image_summary.specs.Summary.{exec_line}
use Rattle.image_summary.proofs.lines.write_execs.Given as goal

abbrev pub invariant-loop-exec : goal.invariant-loop-exec
invariant-loop-exec l = l.out.items ≡ l.fn.out.items ++ flat_map exec_line (take l.exec-index l.execs)
