-- What the file's run came to is how the command ends.
use Rattle.std.proofs.Common.{codes}
use Rattle.halo_cli.specs.World.{Outside, OnlyMoves}
use Rattle.halo_cli.specs.Profile.{ProfileWrites}
use Rattle.halo_cli.proofs.ProfilingEnds.{profiling_stops, profiling_wrote}
use Rattle.halo_cli.proofs.Stopping.{no_write}
use Rattle.halo_cli.proofs.profile.profile_file.Goals as goal

pub returns-in-Err : goal.returns-in-Err
returns-in-Err g c =
    let before : Outside = record {
      files = g.F.Files.seen c.args.files.now;
      input = g.I.Source.seen c.args.input.now;
      out = g.O.Sink.seen c.args.out.now;
    } in
    let now : Outside = record {
      files = g.F.Files.seen c.profile_operand.new.files;
      input = g.I.Source.seen c.profile_operand.new.input;
      out = g.O.Sink.seen c.args.out.now;
    } in
    let moves : OnlyMoves before now = record {
      files = c.in-Err.ensures.reads;
      input = c.in-Err.ensures.draws;
      out = no_write (g.O.Sink.seen c.args.out.now);
    } in
    profiling_stops (codes "profile") ProfileWrites c.args.values.now.given before now moves c.in-Err.ending
    c.in-Err.ensures.first (c.in-Err.ensures.stops (g.O.Sink.seen c.args.out.now))
    (c.in-Err.ensures.cause (g.O.Sink.seen c.args.out.now))

pub returns-in-Ok : goal.returns-in-Ok
returns-in-Ok g c =
    let before : Outside = record {
      files = g.F.Files.seen c.args.files.now;
      input = g.I.Source.seen c.args.input.now;
      out = g.O.Sink.seen c.args.out.now;
    } in
    let now : Outside = record {
      files = g.F.Files.seen c.profile_operand.new.files;
      input = g.I.Source.seen c.profile_operand.new.input;
      out = g.O.Sink.seen c.write_text.new.out;
    } in
    let moves : OnlyMoves before now = record {
      files = c.in-Ok.ensures.reads;
      input = c.in-Ok.ensures.draws;
      out = c.write_text.ensures.writes;
    } in
    profiling_wrote (codes "profile") ProfileWrites c.args.values.now.given before now moves c.in-Ok.profiled.file.items
    (c.in-Ok.ensures.accepts before.out now.out) c.in-Ok.profiled.profiled
    (c.in-Ok.ensures.ran before.out now.out) c.in-Ok.ensures.whole c.write_text.result c.write_text.ensures.wrote
