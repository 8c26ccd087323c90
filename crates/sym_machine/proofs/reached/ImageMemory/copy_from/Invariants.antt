use Rattle.std.proofs.Common.{◌≡◌, [], take, drop}
use Rattle.std.specs.Prelude.{unwrap_or}
use Rattle.sym_cells.specs.Buffers.{taken}
use Rattle.sym_machine.proofs.reached.ImageMemory.copy_from.Given as goal

abbrev pub invariant-loop-i : goal.invariant-loop-i
invariant-loop-i l = take l.i l.into ≡ take l.i (drop l.from (unwrap_or (taken l.self.memory l.len l.at) []))
