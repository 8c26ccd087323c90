use Rattle.std.proofs.Common.{arith, [], refl, ap, sym, ◌∙◌, ◌+◌, length}
use Rattle.std.specs.Prelude.{Err}
use Rattle.heap_trace.proofs.Drawing.{drawn_none, drawn_more}
use Rattle.heap_trace.proofs.RunsTo.{ran_none, ran_next, ends_at, running_now, left_now, cut_now, keeps_file}
use Rattle.heap_trace.proofs.RunsTo.{keeps_plan, traced_next, leads_next, more_turns, started_runs, started_places}
use Rattle.heap_trace.proofs.profiles.record_run.Goals as goal

pub loop-taken-init : goal.loop-taken-init
loop-taken-init g c = record {
  goes = ap (λ s. s.waits) c.requires.start;
  runs = ap (λ s. s.program.machine.ending) c.requires.start ∙ started_runs _ _;
  file = ap (λ s. s.program.file) c.requires.start;
  plan = refl;
  places = omega (
    arith,
    ap (λ s. length s.program.machine.at) c.requires.start,
    ap length (started_places c.args.image.now c.args.machine.now.program.plan),
  );
  distance = refl;
  recorded = ([], c.requires.none, (ap (λ s. s.program.machine) c.requires.start, c.requires.nothing, refl));
  reads = drawn_none _;
  run = λ left told. (
    ran_none _ _ left _ _ (ap (λ s. s.program) c.requires.start) told,
    ([], (c.requires.nothing, refl), c.requires.none),
  );
}

pub take-requires-clause-room : goal.take-requires-clause-room
take-requires-clause-room g c =
    let r = c.loop-taken.invariant.recorded in
    let l = c.runs_have_legal_events.ensures.turns _ _ c.loop-taken.taken _ _ r.0 (omega arith) r.2 in
    omega (arith, l.few, c.loop-taken-test.true)

pub take-requires-clause-legal : goal.take-requires-clause-legal
take-requires-clause-legal g c =
    let r = c.loop-taken.invariant.recorded in
    let some = c.in-Ok.ensures.some in (
      r.0,
      r.1,
      λ after events on.
          (c.runs_have_legal_events.ensures.turns _ _ (c.loop-taken.taken + 1) _ after events (omega arith)
          (leads_next _ _ _ c.loop-taken.machine.program c.turn.new.machine.program some.0 _ _ _ _ _
          c.loop-taken.invariant.file c.loop-taken.invariant.plan r.2 some.1
          (c.last-note.ensures ∙ c.in-Ok.ensures.last) on)).legal,
    )

pub returns-in-Err-AtRead-clause-run : goal.returns-in-Err-AtRead-clause-run
returns-in-Err-AtRead-clause-run g c = λ left told.
    let i = c.loop-taken.invariant.run left told in
    record {
      taken = c.loop-taken.taken;
      ends = (c.loop-taken-test.true, running_now _ _ left _ _ _ i.0 c.loop-taken.invariant.runs);
      leaves = cut_now _ _ left _ _ _ _ i.0 (c.in-Err-AtRead.ensures.cut (ap Err c.in-Err-AtRead.field-0-is));
      has = tt;
    }

pub returns-in-Err-AtRead-clause-reads : goal.returns-in-Err-AtRead-clause-reads
returns-in-Err-AtRead-clause-reads g c = drawn_more _ _ _ c.loop-taken.invariant.reads c.turn.ensures.reads

pub returns-in-Err-NoMemory-clause-run : goal.returns-in-Err-NoMemory-clause-run
returns-in-Err-NoMemory-clause-run g c = λ left told.
    let i = c.loop-taken.invariant.run left told in
    record {
      taken = c.loop-taken.taken;
      ends = omega (arith, c.loop-taken-test.true);
      leaves = c.in-Err-NoMemory.ensures.kept (ap Err c.in-Err-NoMemory.field-0-is) ∙ left_now _ _ left _ _ _ i.0;
      has = tt;
    }

pub returns-in-Err-NoMemory-clause-reads : goal.returns-in-Err-NoMemory-clause-reads
returns-in-Err-NoMemory-clause-reads g c = drawn_more _ _ _ c.loop-taken.invariant.reads c.turn.ensures.reads

pub returns-in-Err-clause-run : goal.returns-in-Err-clause-run
returns-in-Err-clause-run g c = λ left told.
    let i = c.loop-taken.invariant.run left told in
    let r = ran_next _ _ left _ _ _ _ _ i.0 c.loop-taken.invariant.runs c.in-Ok.ensures.done in
    record {
      taken = c.loop-taken.taken + 1;
      ends = omega (arith, c.loop-taken-test.true);
      leaves = left_now _ _ left _ _ _ r;
      has = tt;
    }

pub returns-in-Err-clause-reads : goal.returns-in-Err-clause-reads
returns-in-Err-clause-reads g c = drawn_more _ _ _ c.loop-taken.invariant.reads c.turn.ensures.reads

pub returns-in-Exit-clause-run : goal.returns-in-Exit-clause-run
returns-in-Exit-clause-run g c = λ left told.
    let i = c.loop-taken.invariant.run left told in
    let r = ran_next _ _ left _ _ _ _ _ i.0 c.loop-taken.invariant.runs c.in-Ok.ensures.done in
    record {
      taken = c.loop-taken.taken + 1;
      ends = (refl, ends_at _ _ left _ c.args.steps _ _ _ r c.in-Exit.ensures.is (λ h. (cc)) (omega arith));
      leaves = left_now _ _ left _ _ _ r;
      has =
          (let p = c.in-Ok-take.ensures.pushed i.1.0 i.1.2 in
          (p.0, traced_next _ _ left _ _ _ _ _ _ _ _ i.0 i.1.1 (c.last-note.ensures ∙ c.in-Ok.ensures.last) p.1, p.2));
    }

pub returns-in-Exit-clause-reads : goal.returns-in-Exit-clause-reads
returns-in-Exit-clause-reads g c = drawn_more _ _ _ c.loop-taken.invariant.reads c.turn.ensures.reads

pub returns-in-Exit-clause-turns : goal.returns-in-Exit-clause-turns
returns-in-Exit-clause-turns g c =
    let r = c.loop-taken.invariant.recorded in
    let some = c.in-Ok.ensures.some in
    let p = c.in-Ok-take.ensures.pushed r.0 r.1 in
    let leads = leads_next _ _ _ c.loop-taken.machine.program c.turn.new.machine.program some.0 _ _ _ _ _
    c.loop-taken.invariant.file c.loop-taken.invariant.plan r.2 some.1 (c.last-note.ensures ∙ c.in-Ok.ensures.last)
    p.1 in
    (c.turn.new.machine.program.machine, p.0, leads, p.2)

pub returns-in-Exit-clause-legal : goal.returns-in-Exit-clause-legal
returns-in-Exit-clause-legal g c =
    let r = c.loop-taken.invariant.recorded in
    let some = c.in-Ok.ensures.some in
    let p = c.in-Ok-take.ensures.pushed r.0 r.1 in
    let leads = leads_next _ _ _ c.loop-taken.machine.program c.turn.new.machine.program some.0 _ _ _ _ _
    c.loop-taken.invariant.file c.loop-taken.invariant.plan r.2 some.1 (c.last-note.ensures ∙ c.in-Ok.ensures.last)
    p.1 in (
      p.0,
      p.2,
      more_turns _ _ _ _
          (c.runs_have_legal_events.ensures.turns _ _ (c.loop-taken.taken + 1) _ _ p.0 (omega arith) leads)
          (omega arith),
    )

pub returns-in-Illegal-clause-run : goal.returns-in-Illegal-clause-run
returns-in-Illegal-clause-run g c = λ left told.
    let i = c.loop-taken.invariant.run left told in
    let r = ran_next _ _ left _ _ _ _ _ i.0 c.loop-taken.invariant.runs c.in-Ok.ensures.done in
    record {
      taken = c.loop-taken.taken + 1;
      ends = (refl, ends_at _ _ left _ c.args.steps _ _ _ r c.in-Illegal.ensures.is (λ h. (cc)) (omega arith));
      leaves = left_now _ _ left _ _ _ r;
      has = tt;
    }

pub returns-in-Illegal-clause-reads : goal.returns-in-Illegal-clause-reads
returns-in-Illegal-clause-reads g c = drawn_more _ _ _ c.loop-taken.invariant.reads c.turn.ensures.reads

pub returns-in-Fault-clause-run : goal.returns-in-Fault-clause-run
returns-in-Fault-clause-run g c = λ left told.
    let i = c.loop-taken.invariant.run left told in
    let r = ran_next _ _ left _ _ _ _ _ i.0 c.loop-taken.invariant.runs c.in-Ok.ensures.done in
    record {
      taken = c.loop-taken.taken + 1;
      ends = (refl, ends_at _ _ left _ c.args.steps _ _ _ r c.in-Fault.ensures.is (λ h. (cc)) (omega arith));
      leaves = left_now _ _ left _ _ _ r;
      has = tt;
    }

pub returns-in-Fault-clause-reads : goal.returns-in-Fault-clause-reads
returns-in-Fault-clause-reads g c = drawn_more _ _ _ c.loop-taken.invariant.reads c.turn.ensures.reads

pub loop-taken-preserved : goal.loop-taken-preserved
loop-taken-preserved g c =
    let r = c.loop-taken.invariant.recorded in
    let some = c.in-Ok.ensures.some in
    let p = c.in-Ok-take.ensures.pushed r.0 r.1 in
    let leads = leads_next _ _ _ c.loop-taken.machine.program c.turn.new.machine.program some.0 _ _ _ _ _
    c.loop-taken.invariant.file c.loop-taken.invariant.plan r.2 some.1 (c.last-note.ensures ∙ c.in-Ok.ensures.last)
    p.1 in
    record {
      goes = c.in-Ok.ensures.goes;
      runs = sym c.in-Running.ensures.is;
      file = keeps_file _ _ some.0 some.1 ∙ c.loop-taken.invariant.file;
      plan = keeps_plan _ _ some.0 some.1 ∙ c.loop-taken.invariant.plan;
      places = omega (arith, c.in-Ok.ensures.places, c.loop-taken.invariant.places);
      distance = c.take.ensures.distance ∙ c.loop-taken.invariant.distance;
      recorded = (p.0, p.2, leads);
      reads = drawn_more _ _ _ c.loop-taken.invariant.reads c.turn.ensures.reads;
      run = λ left told.
          (let i = c.loop-taken.invariant.run left told in
          let q = c.in-Ok-take.ensures.pushed i.1.0 i.1.2 in (
            ran_next _ _ left _ _ _ _ _ i.0 c.loop-taken.invariant.runs c.in-Ok.ensures.done,
            (q.0, traced_next _ _ left _ _ _ _ _ _ _ _ i.0 i.1.1 (c.last-note.ensures ∙ c.in-Ok.ensures.last) q.1, q.2),
          ));
    }

pub returns-clause-run : goal.returns-clause-run
returns-clause-run g c = λ left told.
    let i = c.loop-taken.invariant.run left told in
    record {
      taken = c.loop-taken.taken;
      ends = (omega arith, running_now _ _ left _ _ _ i.0 c.loop-taken.invariant.runs);
      leaves = left_now _ _ left _ _ _ i.0;
      has = tt;
    }
