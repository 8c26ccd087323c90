use Rattle.halo_cli.specs.World.{Outside, OnlyMoves}
use Rattle.halo_cli.proofs.FlatRuns.{flat_ran, begins_running}
use Rattle.halo_cli.proofs.RunEnds.{load_ends, run_ends}
use Rattle.halo_cli.proofs.run.run_file.Goals as goal

pub returns-in-Err : goal.returns-in-Err
returns-in-Err g c =
    load_ends c.args.values.now.given (g.F.Files.seen c.args.files.now) (g.F.Files.seen c.load_machine.new.files)
    (g.I.Source.seen c.args.input.now) (g.O.Sink.seen c.args.out.now) c.in-Err.ending c.in-Err.ensures.reads
    (rw c.operand.ensures at c.in-Err.ensures.first) c.in-Err.ensures.stops
    (rw c.operand.ensures at c.in-Err.ensures.cause)

pub returns-in-Ok : goal.returns-in-Ok
returns-in-Ok g c =
    let loaded = c.in-Ok.ensures.loaded in
    let before : Outside = record {
      files = g.F.Files.seen c.args.files.now;
      input = g.I.Source.seen c.args.input.now;
      out = g.O.Sink.seen c.args.out.now;
    } in
    let now : Outside = record {
      files = g.F.Files.seen c.load_machine.new.files;
      input = g.I.Source.seen c.run_flat.new.input;
      out = g.O.Sink.seen c.run_flat.new.out;
    } in
    let moves : OnlyMoves before now = record {
      files = c.in-Ok.ensures.reads;
      input = record {
        tells = c.run_flat.ensures.input_tells;
        faults = c.run_flat.ensures.input_later;
        taken = c.run_flat.ensures.more;
      };
      out = record { tells = c.run_flat.ensures.out_tells; later = c.run_flat.ensures.out_later };
    } in
    rw (c.ending_of.ensures, c.steps_of-steps.ensures)
    (run_ends c.args.values.now.given loaded.0 before now (rw c.operand.ensures at loaded.1) moves
    (rw c.operand.ensures at c.in-Ok.ensures.whole) _
    (flat_ran loaded.0 _ before now c.in-Ok.machine c.run_flat.new.machine c.run_flat.result loaded.2
    (rw c.steps_of-steps.ensures at c.run_flat.ensures.run) (rw c.steps_of-steps.ensures at c.run_flat.ensures.ends)
    c.run_flat.ensures.read_fault c.run_flat.ensures.write_fault))

pub run_flat-requires-clause-runs : goal.run_flat-requires-clause-runs
run_flat-requires-clause-runs g c =
    let loaded = c.in-Ok.ensures.loaded in begins_running loaded.0 c.in-Ok.machine loaded.2
