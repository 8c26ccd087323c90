use Rattle.std.proofs.Common.{◌-◌, ◌≤◌}
use Rattle.machine_run.specs.Machines.{GoesQuietly}
use Rattle.flat_machine.specs.Quiet.{running_at}
use Rattle.flat_machine.specs.Rules.{flat_rules}
use Rattle.flat_machine.proofs.quiet.take_turns.Given as goal

-- the turns so far lead to the registers and the pc at hand
abbrev pub invariant-loop-taken : goal.invariant-loop-taken
invariant-loop-taken l = record {
  within : l.taken ≤ l.most;
  turns : GoesQuietly flat_rules l.taken (running_at l.fn.memory l.fn.words l.fn.at)
      (running_at l.memory l.registers l.pc);
}

abbrev pub decreases-loop-taken : goal.decreases-loop-taken
decreases-loop-taken l = l.most - l.taken
