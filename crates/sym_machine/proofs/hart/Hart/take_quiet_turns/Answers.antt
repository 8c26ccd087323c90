use Rattle.std.proofs.Common.{refl, arith}
use Rattle.sym_machine.proofs.QuietRuns.{one_more}
use Rattle.sym_machine.proofs.hart.Hart.take_quiet_turns.Goals as goal

pub loop-taken-init : goal.loop-taken-init
loop-taken-init c = record { within = omega arith; turns = refl; runs = c.requires }
