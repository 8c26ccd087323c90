use Rattle.std.proofs.Common.{inl, inr, refl}
use Rattle.halo_cli.proofs.line.run_values.Goals as goal

pub returns-in-Some : goal.returns-in-Some
returns-in-Some g c =
    inl (c.in-Some.place, refl, inr (c.args.values.now, c.requires, c.in-Some.ensures c.requires), refl)

pub run_command-requires-clause-passes : goal.run_command-requires-clause-passes
run_command-requires-clause-passes g c = c.in-None.ensures c.requires

pub returns-in-None : goal.returns-in-None
returns-in-None g c = inr (inr (
  c.args.values.now,
  record { line = c.requires; passes = c.in-None.ensures c.requires },
  c.run_command.ensures,
))
