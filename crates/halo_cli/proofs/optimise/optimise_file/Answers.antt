-- The policy of the line is there, and what it makes of the profile is what the command writes.
use Rattle.std.proofs.Common.{◌≡◌, ◌∙◌, slice_get, Some, codes, refl, sym}
use Rattle.std.proofs.lemmas.Option.{slice_get_read}
use Rattle.halo_cli.specs.World.{Outside, OnlyMoves}
use Rattle.halo_cli.specs.Options.{policy_in}
use Rattle.halo_cli.proofs.Valid.{named_some, has_by_option, optimise_policy_plain, optimise_least_edge}
use Rattle.halo_cli.proofs.ProfilingEnds.{profiling_stops, profiling_wrote}
use Rattle.halo_cli.proofs.Stopping.{no_write}
use Rattle.halo_cli.proofs.Optimised.{wrote_at}
use Rattle.halo_cli.proofs.optimise.optimise_file.Goals as goal

pub unreachable-requires : goal.unreachable-requires
unreachable-requires g c = named_some _ (policy_in c.args.values.now.given)
    (optimise_policy_plain c.what_a_line_gives_fits.ensures.options c.requires.asks.0 c.args.values.now
    c.requires.asks.1 c.requires.word)
    (has_by_option _ c.args.values.now (codes "optimise") c.requires.word refl c.requires.passes.policy)
    (sym (rw c.option.ensures at c.find_policy.ensures.place) ∙ c.in_default.is)

pub write_optimised-requires-clause-least_edge : goal.write_optimised-requires-clause-least_edge
write_optimised-requires-clause-least_edge g c =
    optimise_least_edge c.what_a_line_gives_fits.ensures.options c.requires.asks.0 c.args.values.now
    c.requires.asks.1 c.requires.word

pub returns-in-Err : goal.returns-in-Err
returns-in-Err g c =
    let before : Outside = record {
      files = g.F.Files.seen c.args.files.now;
      input = g.I.Source.seen c.args.input.now;
      out = g.O.Sink.seen c.args.out.now;
    } in
    let now : Outside = record {
      files = g.F.Files.seen c.profile_operand.new.files;
      input = g.I.Source.seen c.profile_operand.new.input;
      out = g.O.Sink.seen c.args.out.now;
    } in
    let moves : OnlyMoves before now = record {
      files = c.in-Err.ensures.reads;
      input = c.in-Err.ensures.draws;
      out = no_write (g.O.Sink.seen c.args.out.now);
    } in
    profiling_stops (codes "optimise") _ c.args.values.now.given before now moves c.in-Err.ending
    c.in-Err.ensures.first (c.in-Err.ensures.stops (g.O.Sink.seen c.args.out.now))
    (c.in-Err.ensures.cause (g.O.Sink.seen c.args.out.now))

pub returns-in-Ok : goal.returns-in-Ok
returns-in-Ok g c =
    let before : Outside = record {
      files = g.F.Files.seen c.args.files.now;
      input = g.I.Source.seen c.args.input.now;
      out = g.O.Sink.seen c.args.out.now;
    } in
    let now : Outside = record {
      files = g.F.Files.seen c.profile_operand.new.files;
      input = g.I.Source.seen c.profile_operand.new.input;
      out = g.O.Sink.seen c.write_optimised.new.out;
    } in
    let moves : OnlyMoves before now = record {
      files = c.in-Ok.ensures.reads;
      input = c.in-Ok.ensures.draws;
      out = c.write_optimised.ensures.writes;
    } in
    let at : slice_get c.args.policies.now c.in-Some.place ≡ Some c.index-policies-place.result =
    slice_get_read c.args.policies.now _ c.in-Some.place c.index-policies-place.result refl c.in-Some.ensures.within
    c.index-policies-place.is in
    profiling_wrote (codes "optimise") _ c.args.values.now.given before now moves c.in-Ok.profiled.file.items
    (c.in-Ok.ensures.accepts before.out now.out) c.in-Ok.profiled.profiled
    (c.in-Ok.ensures.ran before.out now.out) c.in-Ok.ensures.whole c.write_optimised.result
    (wrote_at _ _ c.index-policies-place.result _ c.in-Some.place at refl c.args.values.now.given
    (sym (rw c.option.ensures at c.in-Some.ensures.place)) c.in-Ok.profiled.file.items
    c.in-Ok.profiled.profiled.profile before.out now.out c.write_optimised.result c.write_optimised.ensures.wrote)
