use Rattle.std.proofs.Common.{◌≡◌, ap, length, arith}
use Rattle.machine_run.specs.declared.pause.Pause.TheVariants as pause
use Rattle.sym_machine.specs.Seen.{IsPaused, buffer_of}
use Rattle.sym_machine.proofs.Stepping.{buffer_long}
use Rattle.sym_machine.proofs.machine.SymMachine.copy_bytes.Goals as goal

pub copy_from-requires-clause-inside : goal.copy_from-requires-clause-inside
copy_from-requires-clause-inside c =
    let paused : IsPaused (pause.Output c.in-Output.len) c.self.inside.hart = rw c.in-Output.is at c.self.invariant in
    let written : buffer_of c.self.inside.hart.machine c.in-Output.len ≡ c.args.self.now.written =
    rw c.in-Output.is at (ap (λ s. s.written) c.self.view_is) in
    let long = buffer_long c.self.inside.hart.file c.self.inside.hart.machine c.in-Output.len paused in
    omega (arith, c.requires, ap length written, long)
