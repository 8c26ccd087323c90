use Rattle.std.proofs.Common.{◌≡◌, map, take}
use Rattle.sym_machine.specs.Found.{return_of}
use Rattle.sym_machine.proofs.returns.read_returns.Given as goal

abbrev pub invariant-loop-line : goal.invariant-loop-line
invariant-loop-line l = l.returns.items ≡ map (return_of l.image) (take l.line-index l.lines)
