use Rattle.halo_cli.specs.World.{Outside, OnlyMoves}
use Rattle.halo_cli.proofs.SymbolsEnds.{symbols_done, symbols_stop}
use Rattle.halo_cli.proofs.symbols.symbols_file.Goals as goal

pub returns-in-Err : goal.returns-in-Err
returns-in-Err g c =
    symbols_stop c.args.values.now.given (g.F.Files.seen c.args.files.now) (g.F.Files.seen c.load_planned.new.files)
    (g.I.Source.seen c.args.input.now) (g.O.Sink.seen c.args.out.now) c.in-Err.ending c.in-Err.ensures.reads
    (rw (c.operand-plan_name.ensures, c.operand-file_name.ensures) at c.in-Err.ensures.first) c.in-Err.ensures.stops
    (rw (c.operand-plan_name.ensures, c.operand-file_name.ensures) at c.in-Err.ensures.cause)

pub returns-in-Ok : goal.returns-in-Ok
returns-in-Ok g c =
    let before : Outside = record {
      files = g.F.Files.seen c.args.files.now;
      input = g.I.Source.seen c.args.input.now;
      out = g.O.Sink.seen c.args.out.now;
    } in
    let now : Outside = record {
      files = g.F.Files.seen c.load_planned.new.files;
      input = g.I.Source.seen c.run_planned.new.input;
      out = g.O.Sink.seen c.run_planned.new.out;
    } in
    let moves : OnlyMoves before now = record {
      files = c.in-Ok.ensures.reads;
      input = c.run_planned.ensures.draws;
      out = c.run_planned.ensures.writes;
    } in
    symbols_done c.args.values.now.given (record { file = c.in-Ok.planned.image; plan = c.in-Ok.planned.plan }) before
    now
    (rw (c.operand-plan_name.ensures, c.operand-file_name.ensures) at c.in-Ok.ensures.loads) moves
    (rw (c.operand-plan_name.ensures, c.operand-file_name.ensures) at c.in-Ok.ensures.whole) _
    (rw c.steps_of-steps.ensures at c.run_planned.ensures.ran (g.F.Files.seen c.args.files.now)
    (g.F.Files.seen c.load_planned.new.files))
