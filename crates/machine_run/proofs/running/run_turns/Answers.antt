use Rattle.std.proofs.Common.{rules, arith, refl, sym, ◌+◌}
use Rattle.machine_run.proofs.Drawing.{draws_none, draws_more}
use Rattle.machine_run.proofs.TurnByTurn.{ran_none, ran_next, ran_quietly, ends_at, ran_cut, ran_stopped, ran_lacking}
use Rattle.machine_run.proofs.TurnByTurn.{ran_all}
use Rattle.machine_run.proofs.running.run_turns.Goals as goal

pub loop-taken-init : goal.loop-taken-init
loop-taken-init g c = record {
  within = omega arith;
  goes = c.requires.goes;
  runs = c.requires.runs;
  lasts = omega (arith, c.requires.lasts);
  input_tells = search rules;
  input_later = omega arith;
  more = omega arith;
  counted = λ left. draws_none left _ _;
  out_tells = search rules;
  out_later = omega arith;
  run = λ left told. ran_none _ _ left _ _ _ _ refl c.requires.goes told c.requires.empty;
}

pub returns-in-Err-AtRead-clause-run : goal.returns-in-Err-AtRead-clause-run
returns-in-Err-AtRead-clause-run g c = λ left told.
    let h = rw c.in-Err-AtRead.field-0-is at c.in-Err-AtRead.ensures.turn in
    let q = ran_quietly _ _ left _ _ _ (g.M.Machine.seen c.run_quietly-taken.new.self) _ _ _ _
    (c.loop-taken.invariant.run left told) c.run_quietly-taken.ensures.turns
    c.run_quietly-taken.ensures.goes in
    ran_cut _ _ left _ _ _ _ _ _ _ _ _ _ _ q c.run_quietly-taken.ensures.runs (omega arith) h

pub returns-in-Err-AtWrite-clause-run : goal.returns-in-Err-AtWrite-clause-run
returns-in-Err-AtWrite-clause-run g c = λ left told.
    let h = rw c.in-Err-AtWrite.field-0-is at c.in-Err-AtWrite.ensures.turn in
    let q = ran_quietly _ _ left _ _ _ (g.M.Machine.seen c.run_quietly-taken.new.self) _ _ _ _
    (c.loop-taken.invariant.run left told) c.run_quietly-taken.ensures.turns
    c.run_quietly-taken.ensures.goes in
    ran_stopped _ _ left _ _ _ _ _ _ _ _ _ _ c.serve.new.pending q c.run_quietly-taken.ensures.runs (omega arith) h

pub returns-in-Exit-clause-run : goal.returns-in-Exit-clause-run
returns-in-Exit-clause-run g c = λ left told.
    let q = ran_quietly _ _ left _ _ _ (g.M.Machine.seen c.run_quietly-taken.new.self) _ _ _ _
    (c.loop-taken.invariant.run left told) c.run_quietly-taken.ensures.turns
    c.run_quietly-taken.ensures.goes in
    let r = ran_next _ _ left _ _ _ _ _ _ _ _ _ _ q c.run_quietly-taken.ensures.runs c.in-Ok.ensures.turn in
    let e = ends_at _ _ left _ c.args.steps _ _ _ _ _ _ r (sym c.in-Exit.ensures.is)
    (c.in-Exit.ensures.stays (λ h. (cc))) (omega arith) in
    record {
      taken = c.loop-taken.taken + c.run_quietly-taken.result + 1;
      answer = (refl, e);
      runs = r.runs;
      leaves =
          r.leaves;
      output = r.output;
    }

pub returns-in-Illegal-clause-run : goal.returns-in-Illegal-clause-run
returns-in-Illegal-clause-run g c = λ left told.
    let q = ran_quietly _ _ left _ _ _ (g.M.Machine.seen c.run_quietly-taken.new.self) _ _ _ _
    (c.loop-taken.invariant.run left told) c.run_quietly-taken.ensures.turns
    c.run_quietly-taken.ensures.goes in
    let r = ran_next _ _ left _ _ _ _ _ _ _ _ _ _ q c.run_quietly-taken.ensures.runs c.in-Ok.ensures.turn in
    let e = ends_at _ _ left _ c.args.steps _ _ _ _ _ _ r (sym c.in-Illegal.ensures.is)
    (c.in-Illegal.ensures.stays (λ h. (cc))) (omega arith) in
    record {
      taken = c.loop-taken.taken + c.run_quietly-taken.result + 1;
      answer = (refl, e);
      runs = r.runs;
      leaves =
          r.leaves;
      output = r.output;
    }

pub returns-in-Fault-clause-run : goal.returns-in-Fault-clause-run
returns-in-Fault-clause-run g c = λ left told.
    let q = ran_quietly _ _ left _ _ _ (g.M.Machine.seen c.run_quietly-taken.new.self) _ _ _ _
    (c.loop-taken.invariant.run left told) c.run_quietly-taken.ensures.turns
    c.run_quietly-taken.ensures.goes in
    let r = ran_next _ _ left _ _ _ _ _ _ _ _ _ _ q c.run_quietly-taken.ensures.runs c.in-Ok.ensures.turn in
    let e = ends_at _ _ left _ c.args.steps _ _ _ _ _ _ r (sym c.in-Fault.ensures.is)
    (c.in-Fault.ensures.stays (λ h. (cc))) (omega arith) in
    record {
      taken = c.loop-taken.taken + c.run_quietly-taken.result + 1;
      answer = (refl, e);
      runs = r.runs;
      leaves =
          r.leaves;
      output = r.output;
    }

pub loop-taken-preserved : goal.loop-taken-preserved
loop-taken-preserved g c = record {
  within = omega arith;
  goes = c.in-Ok.ensures.goes;
  runs = sym c.in-Running.ensures.is;
  lasts = omega (arith, c.loop-taken.invariant.lasts, c.run_quietly-taken.ensures.fewer, c.serve.ensures.fewer);
  input_tells = search rules;
  input_later = omega arith;
  more = omega arith;
  counted = λ left told fits. draws_more left _ _ _ _ _ (c.loop-taken.invariant.counted left told fits)
      c.in-Ok.ensures.counted;
  out_tells = search rules;
  out_later = omega arith;
  run = λ left told.
      let q = ran_quietly _ _ left _ _ _ (g.M.Machine.seen c.run_quietly-taken.new.self) _ _ _ _
      (c.loop-taken.invariant.run left told) c.run_quietly-taken.ensures.turns
      c.run_quietly-taken.ensures.goes in
      ran_next _ _ left _ _ _ _ _ _ _ _ _ _ q c.run_quietly-taken.ensures.runs c.in-Ok.ensures.turn;
}

pub returns-after-loop-taken-clause-run : goal.returns-after-loop-taken-clause-run
returns-after-loop-taken-clause-run g c = λ left told.
    ran_all _ _ left _ _ _ _ _ _ _ (c.loop-taken.invariant.run left told) c.loop-taken.invariant.runs (omega arith)

pub returns-then-taken-steps-clause-run : goal.returns-then-taken-steps-clause-run
returns-then-taken-steps-clause-run g c = λ left told.
    let q = ran_quietly _ _ left _ _ _ (g.M.Machine.seen c.run_quietly-taken.new.self) _ _ _ _
    (c.loop-taken.invariant.run left told) c.run_quietly-taken.ensures.turns c.run_quietly-taken.ensures.goes in
    ran_all _ _ left _ _ _ _ _ _ _ q c.run_quietly-taken.ensures.runs (omega arith)

pub returns-in-Err-AtRead-clause-counted : goal.returns-in-Err-AtRead-clause-counted
returns-in-Err-AtRead-clause-counted g c = λ left told fits.
    draws_more left _ _ _ _ _ (c.loop-taken.invariant.counted left told fits) c.in-Err-AtRead.ensures.counted

pub returns-in-Err-AtWrite-clause-counted : goal.returns-in-Err-AtWrite-clause-counted
returns-in-Err-AtWrite-clause-counted g c = λ left told fits.
    draws_more left _ _ _ _ _ (c.loop-taken.invariant.counted left told fits) c.in-Err-AtWrite.ensures.counted

pub returns-in-Exit-clause-counted : goal.returns-in-Exit-clause-counted
returns-in-Exit-clause-counted g c = λ left told fits.
    draws_more left _ _ _ _ _ (c.loop-taken.invariant.counted left told fits) c.in-Ok.ensures.counted

pub returns-in-Illegal-clause-counted : goal.returns-in-Illegal-clause-counted
returns-in-Illegal-clause-counted g c = λ left told fits.
    draws_more left _ _ _ _ _ (c.loop-taken.invariant.counted left told fits) c.in-Ok.ensures.counted

pub returns-in-Fault-clause-counted : goal.returns-in-Fault-clause-counted
returns-in-Fault-clause-counted g c = λ left told fits.
    draws_more left _ _ _ _ _ (c.loop-taken.invariant.counted left told fits) c.in-Ok.ensures.counted

pub returns-in-Err-NoMemory-clause-run : goal.returns-in-Err-NoMemory-clause-run
returns-in-Err-NoMemory-clause-run g c = λ left told.
    let h = rw c.in-Err-NoMemory.field-0-is at c.in-Err-NoMemory.ensures.turn in
    let q = ran_quietly _ _ left _ _ _ (g.M.Machine.seen c.run_quietly-taken.new.self) _ _ _ _
    (c.loop-taken.invariant.run left told) c.run_quietly-taken.ensures.turns
    c.run_quietly-taken.ensures.goes in
    ran_lacking _ _ left _ _ _ _ _ _ _ _ _ _ _ _ q c.run_quietly-taken.ensures.runs (omega arith) (search rules) h

pub returns-in-Err-NoMemory-clause-counted : goal.returns-in-Err-NoMemory-clause-counted
returns-in-Err-NoMemory-clause-counted g c = λ left told fits.
    draws_more left _ _ _ _ _ (c.loop-taken.invariant.counted left told fits) c.in-Err-NoMemory.ensures.counted
