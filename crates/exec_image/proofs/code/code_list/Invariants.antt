-- The parts of the sections that are left are missing.
use Rattle.std.proofs.Common.{◌≡◌, ◌++◌, drop}
use Rattle.exec_image.specs.CodeParts.{code_parts}
use Rattle.exec_image.proofs.code.code_list.Given as goal

abbrev pub invariant-loop-s : goal.invariant-loop-s
invariant-loop-s l = l.list.items ++ code_parts (drop l.s-index l.sections) ≡ code_parts l.sections
