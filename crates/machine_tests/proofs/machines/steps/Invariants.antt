use Rattle.std.proofs.Common.{◌≡◌}
use Rattle.std.specs.Prelude.{None}
use Rattle.machine_tests.proofs.machines.steps.Given as goal

-- the machine goes on at the next turn
abbrev pub invariant-loop-turn : goal.invariant-loop-turn
invariant-loop-turn l = l.machine.waits ≡ None
