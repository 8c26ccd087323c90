-- The file was read, and its run gave a profile, or the command ends as that did.
use Rattle.std.proofs.Common.{refl, rules}
use Rattle.halo_cli.specs.World.{Outside}
use Rattle.halo_cli.specs.Reads.{file_limit, IsRead}
use Rattle.halo_cli.proofs.ProfilingEnds.{file_stops}
use Rattle.halo_cli.proofs.profiling.profile_operand.Goals as goal

pub returns-in-Ok-profile_of-clause-ran : goal.returns-in-Ok-profile_of-clause-ran
returns-in-Ok-profile_of-clause-ran g c = λ out out'.
    rw (c.deref.ensures.value, c.area_of-area.ensures.value, c.distance_of.ensures.value, c.steps_of.ensures)
    at c.in-Ok-profile_of.ensures.ran (g.F.Files.seen c.args.files.now) (g.F.Files.seen c.read.new.self) out out'

pub returns-in-Err-clause-stops : goal.returns-in-Err-clause-stops
returns-in-Err-clause-stops g c = λ out.
    let before : Outside = record {
      files = g.F.Files.seen c.args.files.now;
      input = g.I.Source.seen c.args.input.now;
      out = out;
    } in
    let now : Outside = record {
      files = g.F.Files.seen c.read.new.self;
      input = g.I.Source.seen c.profile_of.new.input;
      out = out;
    } in
    let read : IsRead c.operand.result.now file_limit before.files now.files c.in-Ok.file.items = search rules in
    (file_stops c.args.values.now.given before now c.in-Ok.file.items (rw c.operand.ensures at read) refl
    c.in-Err.ending (rw (c.deref.ensures.value, c.area_of-area.ensures.value, c.steps_of.ensures)
    at c.in-Err.ensures.stops before.files now.files out out)).0

pub returns-in-Err-clause-cause : goal.returns-in-Err-clause-cause
returns-in-Err-clause-cause g c = λ out.
    let before : Outside = record {
      files = g.F.Files.seen c.args.files.now;
      input = g.I.Source.seen c.args.input.now;
      out = out;
    } in
    let now : Outside = record {
      files = g.F.Files.seen c.read.new.self;
      input = g.I.Source.seen c.profile_of.new.input;
      out = out;
    } in
    let read : IsRead c.operand.result.now file_limit before.files now.files c.in-Ok.file.items = search rules in
    (file_stops c.args.values.now.given before now c.in-Ok.file.items (rw c.operand.ensures at read) refl
    c.in-Err.ending (rw (c.deref.ensures.value, c.area_of-area.ensures.value, c.steps_of.ensures)
    at c.in-Err.ensures.stops before.files now.files out out)).1
