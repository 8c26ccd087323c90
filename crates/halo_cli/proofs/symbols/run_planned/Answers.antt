use Rattle.std.proofs.Common.{inr, arith}
use Rattle.halo_cli.proofs.SymbolRuns.{symbols_ran, begins_running, begins_empty}
use Rattle.halo_cli.proofs.symbols.run_planned.Goals as goal

pub returns-in-Ok-clause-ran : goal.returns-in-Ok-clause-ran
returns-in-Ok-clause-ran g c = λ files files'.
    inr (rw c.ending_of.ensures
    (symbols_ran c.args.planned.now.image c.args.planned.now.plan c.args.steps
    (record { files = files; input = g.I.Source.seen c.args.input.now; out = g.O.Sink.seen c.args.out.now })
    (record {
      files = files';
      input = g.I.Source.seen c.run_symbols.new.input;
      out = g.O.Sink.seen c.run_symbols.new.out;
    })
    c.in-Ok.machine _ c.run_symbols.result c.in-Ok.ensures c.run_symbols.ensures.run c.run_symbols.ensures.ends
    c.run_symbols.ensures.read_fault c.run_symbols.ensures.write_fault))

pub run_symbols-requires-clause-runs : goal.run_symbols-requires-clause-runs
run_symbols-requires-clause-runs g c =
    begins_running c.args.planned.now.image c.args.planned.now.plan c.in-Ok.machine c.in-Ok.ensures

pub run_symbols-requires-clause-blocks : goal.run_symbols-requires-clause-blocks
run_symbols-requires-clause-blocks g c =
    rw (begins_empty c.args.planned.now.image c.args.planned.now.plan c.in-Ok.machine c.in-Ok.ensures) (omega arith)
