-- What a machine's answer says of the run of a program, and how a command ends after it.
use Rattle.std.proofs.Common.{◌≡◌, ◌≢◌, ℕ, ◌+◌, ◌<◌, ◌≤◌, ◌⊎◌, inl, List, Option, None, Some, refl, subst, arith}
use Rattle.std.specs.Prelude.{Result, Ok, Err}
use Rattle.halo_outside.specs.Seen.{Rose, Appends}
use Rattle.machine_spec.specs.declared.Ending as machine_ending
use Rattle.machine_spec.specs.declared.Ending.TheVariants as machine
use Rattle.machine_run.specs.declared.RunEnd.{RunEnd}
use Rattle.machine_run.specs.declared.RunEnd.TheVariants as run_end
use Rattle.machine_run.specs.Runs.{WritesAll}
use Rattle.endings.specs.declared.endings.Ending.{Ending}
use Rattle.endings.specs.declared.endings.Ending.TheVariants.{Done, Exited, Usage, File, Plan, Profile, ReadFault}
use Rattle.endings.specs.declared.endings.Ending.TheVariants.{WriteFault, Memory, StillRunning, Fault, Illegal}
use Rattle.halo_words.specs.Grammar.{Given}
use Rattle.halo_cli.specs.World.{Outside}
use Rattle.halo_cli.specs.Entry.{Entry}
use Rattle.halo_cli.specs.Runs.{Run, Stand, ending_at, RunsBefore, IsRunEnd, MayRunTo, RunsTo, HasRest, HasPart, RanTo}
use Rattle.halo_cli.specs.Runs.{IsLoadEnding}
use Rattle.halo_cli.specs.RunEnds.{ending_or_memory}
use Rattle.halo_cli.specs.Ends.{HasCauseOf}

-- the run has this ending at a turn, and none before
pub record IsOver (run : Run) (input : List ℕ) (bound n : ℕ) (ending : machine_ending.Ending) : Type 0 where
  pub within : n ≤ bound
  pub runs : RunsBefore run input n
  pub ends : ending_at run input n ≡ ending

-- the answer of a run of at most `bound` turns on an input, of which so many were taken
abbrev pub Answered : {E : Type 0} → Run → List ℕ → Result RunEnd E → (bound taken : ℕ) → Type 0
Answered run input (Ok (run_end.Exited status n)) bound taken =
    (taken ≡ n) × IsOver run input bound taken (machine.Exit status)
Answered run input (Ok (run_end.Illegal at n)) bound taken =
    (taken ≡ n + 1) × IsOver run input bound taken (machine.Illegal at)
Answered run input (Ok (run_end.Fault kind at n)) bound taken =
    (taken ≡ n + 1) × IsOver run input bound taken (machine.Fault kind at)
Answered run input (Ok run_end.Steps) bound taken =
    (taken ≡ bound) × (ending_at run input taken ≡ machine.Running)
Answered run input (Ok run_end.ReadFault) bound taken =
    (taken < bound) × (ending_at run input taken ≡ machine.Running)
Answered run input (Ok run_end.WriteFault) bound taken = (taken ≤ bound)
    × (run.wrote input taken ⊎ (taken ≡ bound) ⊎ (ending_at run input taken ≢ machine.Running)
    ⊎ run.may_lack input taken)
Answered run input (Err lack) bound taken =
    (taken < bound) × (ending_at run input taken ≡ machine.Running) × run.may_lack input taken

-- what the source has left, where the next turn reads so
abbrev pub Left : {E : Type 0} → Result RunEnd E → (reads : ℕ → Type 0) → Stand → Outside → Type 0
Left (Ok run_end.ReadFault) reads stand now = HasPart reads stand now
Left (Ok (run_end.Exited status n)) reads stand now = HasRest stand now
Left (Ok (run_end.Illegal at n)) reads stand now = HasRest stand now
Left (Ok (run_end.Fault kind at n)) reads stand now = HasRest stand now
Left (Ok run_end.Steps) reads stand now = HasRest stand now
Left (Ok run_end.WriteFault) reads stand now = HasRest stand now
Left (Err lack) reads stand now = HasRest stand now

-- what an answer says of a run on a told input
pub record Told {E : Type 0} (run : Run) (end : Result RunEnd E) (bound : ℕ) (before now : Outside) (input : List ℕ) :
    Type 0 where
  pub taken : ℕ
  pub answer : Answered run input end bound taken
  pub left : Left end (run.reads input taken) (run.after input taken) now
  pub output : WritesAll end before.out now.out (run.after input taken).output

-- and what it says whatever the input
abbrev pub Untold : {E : Type 0} → Run → Result RunEnd E → (bound : ℕ) → Outside → Outside → Type 0
Untold run (Ok (run_end.Exited status n)) bound before now = (0 < n) × (n ≤ bound)
Untold run (Ok (run_end.Illegal at n)) bound before now = n < bound
Untold run (Ok (run_end.Fault kind at n)) bound before now = n < bound
Untold run (Ok run_end.Steps) bound before now = Unit {0}
Untold run (Ok run_end.ReadFault) bound before now = Rose before.input.faults now.input.faults
Untold run (Ok run_end.WriteFault) bound before now = Rose before.out.faults now.out.faults
Untold run (Err lack) bound before now = run.lacks

-- a property of the turns that were taken is one of the turns that the answer names
at_turn : (P : ℕ → Type 0) (taken n : ℕ) → taken ≡ n → P taken → P n
at_turn P taken n is holds = subst P is holds

runs_to : (run : Run) (bound : ℕ) (before : Outside) (ending : Ending) → MayRunTo bound ending
    → ((input : List ℕ) → before.input.told ≡ Some input → IsRunEnd run input bound ending)
    → RunsTo before.input.told bound run ending
runs_to run bound before ending may ends = at before.input.told refl
  where
    at : (input : Option (List ℕ)) → before.input.told ≡ input → RunsTo input bound run ending
    at None is = may
    at (Some given) is = ends given is

module _ {E : Type 0} (run : Run) (bound : ℕ) (before now : Outside) where
  abbrev Tells : Result RunEnd E → Type 0
  Tells end = (input : List ℕ) → before.input.told ≡ Some input → Told run end bound before now input

  -- the run of the answer
  pub ran_to : (end : Result RunEnd E) → Tells end → Untold run end bound before now
      → RanTo run bound before now (ending_or_memory end bound)
  ran_to (Ok (run_end.Exited status n)) told untold = (
    runs_to run bound before (Exited status n) untold (λ input is.
        let t = told input is in at_turn (λ k. (k ≤ bound) × RunsBefore run input k
        × (ending_at run input k ≡ machine.Exit status)) t.taken n t.answer.0
        (t.answer.1.within, t.answer.1.runs, t.answer.1.ends)),
    λ input is. let t = told input is in
        at_turn (λ k. Appends before.out.told now.out.told (run.after input k).output × HasRest (run.after input k) now)
        t.taken n t.answer.0 (t.output, t.left),
  )
  ran_to (Ok (run_end.Illegal at n)) told untold = (
    runs_to run bound before (Illegal at n) (omega (arith, untold)) (λ input is.
        let t = told input is in at_turn (λ k. (k ≤ bound) × RunsBefore run input k
        × (ending_at run input k ≡ machine.Illegal at)) t.taken (n + 1) t.answer.0
        (t.answer.1.within, t.answer.1.runs, t.answer.1.ends)),
    λ input is. let t = told input is in
        at_turn (λ k. Appends before.out.told now.out.told (run.after input k).output × HasRest (run.after input k) now)
        t.taken (n + 1) t.answer.0 (t.output, t.left),
  )
  ran_to (Ok (run_end.Fault kind at n)) told untold = (
    runs_to run bound before (Fault kind at n) (omega (arith, untold)) (λ input is.
        let t = told input is in at_turn (λ k. (k ≤ bound) × RunsBefore run input k
        × (ending_at run input k ≡ machine.Fault kind at)) t.taken (n + 1) t.answer.0
        (t.answer.1.within, t.answer.1.runs, t.answer.1.ends)),
    λ input is. let t = told input is in
        at_turn (λ k. Appends before.out.told now.out.told (run.after input k).output × HasRest (run.after input k) now)
        t.taken (n + 1) t.answer.0 (t.output, t.left),
  )
  ran_to (Ok run_end.Steps) told untold = (
    runs_to run bound before (StillRunning bound) refl (λ input is.
        let t = told input is in
        (refl, at_turn (λ k. ending_at run input k ≡ machine.Running) t.taken bound t.answer.0 t.answer.1)),
    λ input is. let t = told input is in
        at_turn (λ k. Appends before.out.told now.out.told (run.after input k).output × HasRest (run.after input k) now)
        t.taken bound t.answer.0 (t.output, t.left),
  )
  ran_to (Ok run_end.ReadFault) told untold = (
    untold,
    λ input is. let t = told input is in (t.taken, t.answer.0, t.answer.1, t.output, t.left),
  )
  ran_to (Ok run_end.WriteFault) told untold = (
    untold,
    λ input is. let t = told input is in (t.taken, t.answer.0, t.answer.1, t.output, t.left),
  )
  ran_to (Err lack) told untold = (
    untold,
    λ input is. let t = told input is in (t.taken, t.answer.0, t.answer.1, t.answer.2, t.output, t.left),
  )

-- how a command ends after the run of its program
module _ {P : Type 0} (run_of : P → Run) (Loads : P → Type 0) (bound : ℕ) (entry : Entry) (given : Given)
    (before now : Outside) (p : P) (loads : Loads p)
    (brings : (ending : Ending) → RunsTo before.input.told bound (run_of p) ending
    → entry.brings given before now ending)
    (started : entry.started given before now)
    (fails : Rose before.input.faults now.input.faults → entry.fails given before now) where
  pub ran_cause : (ending : Ending) → RanTo (run_of p) bound before now ending
      → HasCauseOf entry given before now ending
  ran_cause (Exited status n) ran = brings (Exited status n) ran.0
  ran_cause (StillRunning n) ran = brings (StillRunning n) ran.0
  ran_cause (Fault kind at n) ran = brings (Fault kind at n) ran.0
  ran_cause (Illegal at n) ran = brings (Illegal at n) ran.0
  ran_cause ReadFault ran = inl (fails ran.0)
  ran_cause WriteFault ran = (ran.0, started)
  ran_cause Memory ran = tt
  ran_cause Done ran = absurd ran
  ran_cause (Usage place) ran = absurd ran
  ran_cause (File why) ran = absurd ran
  ran_cause (Plan why) ran = absurd ran
  ran_cause (Profile why) ran = absurd ran

-- no write fails before anything runs
pub no_write_fault : (ending : Ending) → IsLoadEnding ending → ending ≢ WriteFault
no_write_fault WriteFault load is = load
no_write_fault Done load is = cc
no_write_fault (Exited status n) load is = load
no_write_fault (StillRunning n) load is = load
no_write_fault (Fault kind at n) load is = load
no_write_fault (Illegal at n) load is = load
no_write_fault ReadFault load is = cc
no_write_fault Memory load is = cc
no_write_fault (Usage place) load is = cc
no_write_fault (File why) load is = cc
no_write_fault (Plan why) load is = cc
no_write_fault (Profile why) load is = cc
