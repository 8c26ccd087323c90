use Rattle.std.proofs.Common.{◌≡◌, drop, find}
use Rattle.sym_machine.specs.Found.{comes_to}
use Rattle.sym_machine.proofs.returns.mask_back.Given as goal

abbrev pub invariant-loop-r : goal.invariant-loop-r
invariant-loop-r l = find (comes_to l.addr) (drop l.r-index l.returns) ≡ find (comes_to l.addr) l.returns
