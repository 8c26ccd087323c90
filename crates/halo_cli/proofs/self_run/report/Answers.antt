-- The generated program is short, its new file is readable, and what was made of it is what the lines say.
use Rattle.std.proofs.Common.{None, refl, ap}
use Rattle.halo_outside.specs.Seen.{FilesSeen, SourceSeen, SinkSeen}
use Rattle.rv_build.specs.Generated.{program}
use Rattle.halo_cli.proofs.GeneratedFile.{fields_alone, short_file}
use Rattle.halo_cli.proofs.SelfEnds.{source_stops, new_or_memory, few_grants, written}
use Rattle.halo_cli.proofs.self_run.report.Goals as goal

pub profile_of-requires-clause-short : goal.profile_of-requires-clause-short
profile_of-requires-clause-short g c =
    rw c.deref.ensures.value (short_file c.args.nodes c.in-Ok.file.items c.in-Ok.ensures.reads)

pub optimise-requires-clause-short : goal.optimise-requires-clause-short
optimise-requires-clause-short g c =
    rw c.deref-2.ensures.value (short_file c.args.nodes c.in-Ok.file.items c.in-Ok.ensures.reads)

pub exit_of-requires-clause-readable : goal.exit_of-requires-clause-readable
exit_of-requires-clause-readable g c =
    let new = rw c.deref-2.ensures.value at c.in-Ok-optimise.ensures.new in
    rw c.deref-3.ensures.value
    (new.readable (fields_alone (program c.args.nodes) c.in-Ok.file.items c.in-Ok.ensures.reads))

pub returns-in-Err-clause-stops : goal.returns-in-Err-clause-stops
returns-in-Err-clause-stops g c =
    let nowhere : FilesSeen = record { told = None; faults = 0; taken = 0 } in
    let silent : SinkSeen = record { told = None; faults = 0 } in
    let source = rw c.new.ensures.items at c.new-input.ensures in
    (source_stops (λ cut answer. ⊥) c.args.nodes c.in-Ok.file.items c.in-Ok.ensures.is _ _ silent silent
    (ap (λ (s : SourceSeen). s.told) source) (ap (λ (s : SourceSeen). s.faults) source) refl c.in-Err.ending
    (rw c.deref.ensures.value at c.in-Err.ensures.stops nowhere nowhere silent silent)).0

pub returns-in-Err-clause-cause : goal.returns-in-Err-clause-cause
returns-in-Err-clause-cause g c =
    let nowhere : FilesSeen = record { told = None; faults = 0; taken = 0 } in
    let silent : SinkSeen = record { told = None; faults = 0 } in
    let source = rw c.new.ensures.items at c.new-input.ensures in
    (source_stops _ c.args.nodes c.in-Ok.file.items c.in-Ok.ensures.is _ _ silent silent
    (ap (λ (s : SourceSeen). s.told) source) (ap (λ (s : SourceSeen). s.faults) source) refl c.in-Err.ending
    (rw c.deref.ensures.value at c.in-Err.ensures.stops nowhere nowhere silent silent)).1

pub returns-in-Err-exit_of-clause-cause : goal.returns-in-Err-exit_of-clause-cause
returns-in-Err-exit_of-clause-cause g c =
    let nowhere : FilesSeen = record { told = None; faults = 0; taken = 0 } in
    let silent : SinkSeen = record { told = None; faults = 0 } in
    let source = rw c.new.ensures.items at c.new-input.ensures in
    new_or_memory _ c.args.nodes c.in-Ok.file.items c.in-Ok.ensures.is _ _ silent silent
    (ap (λ (s : SourceSeen). s.told) source) (ap (λ (s : SourceSeen). s.faults) source) refl
    c.in-Ok-profile_of.source
    (rw c.deref.ensures.value at c.in-Ok-profile_of.ensures.ran nowhere nowhere silent silent)
    c.in-Ok-optimise.made.groups c.in-Ok-optimise.made.plan c.in-Ok-optimise.ensures.plan
    c.in-Ok-optimise.made.file.items (rw c.deref-2.ensures.value at c.in-Ok-optimise.ensures.new)
    (rw c.deref.ensures.value at c.in-Ok-profile_of.ensures.accepted) c.in-Err-exit_of.ending
    (rw c.deref-3.ensures.value at c.in-Err-exit_of.ensures.cause)

pub lines-requires : goal.lines-requires
lines-requires g c =
    let nowhere : FilesSeen = record { told = None; faults = 0; taken = 0 } in
    let silent : SinkSeen = record { told = None; faults = 0 } in
    let source = rw c.new.ensures.items at c.new-input.ensures in
    record {
      few = few_grants _ c.args.nodes c.in-Ok.file.items c.in-Ok.ensures.is _ _ silent silent
          (ap (λ (s : SourceSeen). s.told) source) (ap (λ (s : SourceSeen). s.faults) source) refl
          c.in-Ok-profile_of.source
          (rw c.deref.ensures.value at c.in-Ok-profile_of.ensures.ran nowhere nowhere silent silent)
          c.in-Ok-optimise.made.groups c.in-Ok-optimise.made.plan c.in-Ok-optimise.ensures.plan
          c.in-Ok-optimise.made.file.items (rw c.deref-2.ensures.value at c.in-Ok-optimise.ensures.new)
          c.runs_have_legal_events.ensures.legal c.every_grant_is_counted_once.ensures.once
          c.every_grant_is_counted_once.ensures.few;
    }

pub returns-in-Ok-lines-clause-written : goal.returns-in-Ok-lines-clause-written
returns-in-Ok-lines-clause-written g c =
    let nowhere : FilesSeen = record { told = None; faults = 0; taken = 0 } in
    let silent : SinkSeen = record { told = None; faults = 0 } in
    let source = rw c.new.ensures.items at c.new-input.ensures in
    let exits = rw c.deref-3.ensures.value at c.in-Ok-exit_of.ensures.exits in
    written _ c.args.nodes c.in-Ok.file.items c.in-Ok.ensures.is _ _ silent silent
    (ap (λ (s : SourceSeen). s.told) source) (ap (λ (s : SourceSeen). s.faults) source) refl
    c.in-Ok-profile_of.source
    (rw c.deref.ensures.value at c.in-Ok-profile_of.ensures.ran nowhere nowhere silent silent)
    c.in-Ok-optimise.made.groups c.in-Ok-optimise.made.plan c.in-Ok-optimise.ensures.plan
    c.in-Ok-optimise.made.file.items (rw c.deref-2.ensures.value at c.in-Ok-optimise.ensures.new)
    c.runs_have_legal_events.ensures.legal c.every_grant_is_counted_once.ensures.once
    c.every_grant_is_counted_once.ensures.few c.in-Ok-exit_of.status exits.0 exits.1 c.in-Ok-lines.text.items
    c.in-Ok-lines.ensures
