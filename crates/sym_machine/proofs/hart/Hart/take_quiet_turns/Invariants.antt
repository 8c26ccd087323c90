use Rattle.std.proofs.Common.{◌≡◌, ◌-◌, ◌≤◌}
use Rattle.machine_spec.specs.declared.Ending.TheVariants.{Running}
use Rattle.sym_machine.specs.QuietTurns.{GoesOn}
use Rattle.sym_machine.proofs.hart.Hart.take_quiet_turns.Given as goal

-- the turns so far lead to the machine at hand, which runs
abbrev pub invariant-loop-taken : goal.invariant-loop-taken
invariant-loop-taken l = record {
  within : l.taken ≤ l.most;
  turns : GoesOn l.taken l.fn.self l.self;
  runs : l.self.machine.ending ≡ Running;
}

abbrev pub decreases-loop-taken : goal.decreases-loop-taken
decreases-loop-taken l = l.most - l.taken
