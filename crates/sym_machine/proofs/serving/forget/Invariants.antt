use Rattle.std.proofs.Common.{◌≡◌}
use Rattle.sym_machine.proofs.Forgetting.{done_to}
use Rattle.sym_machine.proofs.serving.forget.Given as goal

abbrev pub invariant-loop-r : goal.invariant-loop-r
invariant-loop-r l = l.registers ≡ done_to 0 l.r l.fn.registers
