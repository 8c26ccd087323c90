-- The plan's text and the file were read one after the other.
use Rattle.std.proofs.Common.{inl, inr, refl, rules}
use Rattle.halo_outside.specs.Seen.{FilesSeen, IsTooLong}
use Rattle.endings.specs.declared.endings.Ending.TheVariants.{File, ReadFault, Memory}
use Rattle.endings.specs.declared.endings.BadFile.TheVariants.{TooLong}
use Rattle.halo_cli.specs.Reads.{IsRead, IsStopped, StopsSo, file_limit, plan_limit}
use Rattle.halo_cli.specs.PlanAndFile.{IsPlanRead}
use Rattle.halo_cli.proofs.PlanAndFileReads.{read_of_file, file_stops, both_whole}
use Rattle.halo_cli.proofs.plan_and_file.read_plan_and_file.Goals as goal

pub returns-in-Err-Failed-read-clause-first : goal.returns-in-Err-Failed-read-clause-first
returns-in-Err-Failed-read-clause-first g c =
    let before : FilesSeen = g.F.Files.seen c.args.files.now in
    let between : FilesSeen = g.F.Files.seen c.read.new.self in
    let now : FilesSeen = g.F.Files.seen c.read-2.new.self in
    let plan : IsRead c.args.plan_name.now plan_limit before between c.in-Ok.text.items = search rules in
    let stopped : IsStopped (read_of_file c.args.file_name.now) between now = search rules in
    let so : StopsSo (read_of_file c.args.file_name.now) between now ReadFault =
    inl (refl, search rules) in
    file_stops c.args.plan_name.now c.args.file_name.now c.in-Ok.text.items before between now ReadFault
    plan c.in-Ok.ensures.same c.in-Ok.ensures.later stopped so

pub returns-in-Err-TooLong-read-clause-first : goal.returns-in-Err-TooLong-read-clause-first
returns-in-Err-TooLong-read-clause-first g c =
    let before : FilesSeen = g.F.Files.seen c.args.files.now in
    let between : FilesSeen = g.F.Files.seen c.read.new.self in
    let now : FilesSeen = g.F.Files.seen c.read-2.new.self in
    let plan : IsRead c.args.plan_name.now plan_limit before between c.in-Ok.text.items = search rules in
    let stopped : IsStopped (read_of_file c.args.file_name.now) between now = search rules in
    let so : StopsSo (read_of_file c.args.file_name.now) between now (File TooLong) =
    inr (inl (refl, search rules)) in
    file_stops c.args.plan_name.now c.args.file_name.now c.in-Ok.text.items before between now (File TooLong)
    plan c.in-Ok.ensures.same c.in-Ok.ensures.later stopped so

pub returns-in-Err-Memory-read-clause-first : goal.returns-in-Err-Memory-read-clause-first
returns-in-Err-Memory-read-clause-first g c =
    let before : FilesSeen = g.F.Files.seen c.args.files.now in
    let between : FilesSeen = g.F.Files.seen c.read.new.self in
    let now : FilesSeen = g.F.Files.seen c.read-2.new.self in
    let plan : IsRead c.args.plan_name.now plan_limit before between c.in-Ok.text.items = search rules in
    let stopped : IsStopped (read_of_file c.args.file_name.now) between now = search rules in
    let so : StopsSo (read_of_file c.args.file_name.now) between now Memory =
    inr (inr (refl, search rules)) in
    file_stops c.args.plan_name.now c.args.file_name.now c.in-Ok.text.items before between now Memory
    plan c.in-Ok.ensures.same c.in-Ok.ensures.later stopped so

pub returns-in-Err-TooLong-read-clause-cause : goal.returns-in-Err-TooLong-read-clause-cause
returns-in-Err-TooLong-read-clause-cause g c =
    let before : FilesSeen = g.F.Files.seen c.args.files.now in
    let between : FilesSeen = g.F.Files.seen c.read.new.self in
    let now : FilesSeen = g.F.Files.seen c.read-2.new.self in
    let first : IsPlanRead c.args.plan_name.now before between c.in-Ok.text.items =
    record { read = search rules; told = search rules } in
    let long : IsTooLong between.told c.args.file_name.now file_limit between.taken now.taken = search rules in
    inr (inl (between, c.in-Ok.text.items, first, inr (refl, long)))

pub returns-clause-whole : goal.returns-clause-whole
returns-clause-whole g c =
    let before : FilesSeen = g.F.Files.seen c.args.files.now in
    let between : FilesSeen = g.F.Files.seen c.read.new.self in
    let now : FilesSeen = g.F.Files.seen c.read-2.new.self in
    let plan : IsRead c.args.plan_name.now plan_limit before between c.in-Ok.text.items = search rules in
    let file : IsRead c.args.file_name.now file_limit between now c.in-Ok-read.file.items = search rules in
    λ ending. both_whole c.args.plan_name.now c.args.file_name.now c.in-Ok.text.items before between now
    ending plan c.in-Ok.ensures.same c.in-Ok.ensures.later c.in-Ok-read.file.items file c.in-Ok-read.ensures.same
    c.in-Ok-read.ensures.later

pub returns-clause-read : goal.returns-clause-read
returns-clause-read g c =
    let before : FilesSeen = g.F.Files.seen c.args.files.now in
    let between : FilesSeen = g.F.Files.seen c.read.new.self in
    let now : FilesSeen = g.F.Files.seen c.read-2.new.self in
    let first : IsPlanRead c.args.plan_name.now before between c.in-Ok.text.items =
    record { read = search rules; told = search rules } in
    let second : IsRead c.args.file_name.now file_limit between now c.in-Ok-read.file.items = search rules in
    (between, first, second)
