use Rattle.std.proofs.Common.{◌≡◌, ◌-◌}
use Rattle.std.specs.Prelude.{is_some}
use Rattle.sym_cells.specs.Buffers.{taken}
use Rattle.sym_machine.specs.Reached.{behind_by}
use Rattle.sym_machine.proofs.reached.ImageMemory.are_known.Given as goal

abbrev pub invariant-loop-i : goal.invariant-loop-i
invariant-loop-i l =
    is_some (taken l.self.memory (l.len - l.i) (behind_by l.i l.at)) ≡ is_some (taken l.self.memory l.len l.at)
