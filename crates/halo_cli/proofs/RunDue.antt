-- What is told brings `run` to one ending, and what was read brings it there.
use Rattle.std.proofs.Common.{◌≡◌, ◌∙◌, ℕ, zero, suc, ◌+◌, ◌<◌, inl, inr, ⊎_elim, List, [], Option, None, Some, refl}
use Rattle.std.proofs.Common.{sym, subst, MatchOption, arith}
use Rattle.std.proofs.lemmas.Bool.{cases_order}
use Rattle.halo_outside.specs.Seen.{Contents, contents_of, IsToldAt}
use Rattle.elf_read.specs.declared.refusals.ElfRefusal.{ElfRefusal}
use Rattle.elf_read.specs.Refusals.{refusal}
use Rattle.exec_image.specs.declared.refusals.FileRefusal.TheVariants.{Elf}
use Rattle.machine_spec.specs.declared.Ending as machine_ending
use Rattle.machine_spec.specs.declared.Ending.TheVariants as machine
use Rattle.flat_spec.specs.Machine.{Machine, start}
use Rattle.flat_spec.specs.Turns.{turn, turn_of}
use Rattle.flat_spec.specs.Runs.{State, step, steps, flat_run}
use Rattle.endings.specs.declared.endings.Ending.{Ending}
use Rattle.endings.specs.declared.endings.Ending.TheVariants.{Done, File, ReadFault}
use Rattle.endings.specs.declared.endings.BadFile.TheVariants.{Refused}
use Rattle.halo_words.specs.Grammar.{operand_in}
use Rattle.halo_cli.specs.World.{Outside}
use Rattle.halo_cli.specs.Reads.{run_limit}
use Rattle.halo_cli.specs.Runs.{InputEnds, RunsTo, steps_in}
use Rattle.halo_cli.specs.Run.{run_of_file, FileRuns, RunComes, RunBrings, Loads, IsLoaded, run_entry}
use Rattle.halo_cli.proofs.ReadsDue.{file_once, told_comes, of_told_comes, no_file_comes, lacks_told}
use Rattle.halo_cli.proofs.CommandLaws.{MayWrite, Laws}
use Rattle.halo_cli.proofs.RunsOnce.{GoesOn, input_once, input_writes, known_run, never_done, never_fails}
use Rattle.halo_cli.proofs.RunLaws.{run_leaves_done, run_leaves_silent, run_leaves_lacks}

-- what a file that runs comes to
abbrev Comes : Option (List ℕ) → ℕ → List ℕ → Ending → Type 0
Comes input steps file ending = FileRuns file (InputEnds input steps (run_of_file file)) ending

-- a machine that runs after a turn ran before it
turn_running : (input : List ℕ) (m : Machine) (e : machine_ending.Ending) → m.ending ≡ e
    → (turn_of e input m).next.ending ≡ machine.Running → e ≡ machine.Running
turn_running input m machine.Running is runs = refl
turn_running input m (machine.Exit s) is runs = sym is ∙ runs
turn_running input m (machine.Illegal at) is runs = sym is ∙ runs
turn_running input m (machine.Fault k at) is runs = sym is ∙ runs

step_running : (s : State) → (step s).machine.ending ≡ machine.Running → s.machine.ending ≡ machine.Running
unfolding step turn
step_running s runs = turn_running s.input s.machine s.machine.ending refl runs

running_before : (s : State) (n k : ℕ) → k < n + 1 → (steps n s).machine.ending ≡ machine.Running
    → (steps k s).machine.ending ≡ machine.Running
unfolding steps
running_before s zero k within runs = let is : k ≡ 0 = omega (arith, within) in
    subst (λ j. (steps j s).machine.ending ≡ machine.Running) (sym is) runs
running_before s (suc n) k within runs = ⊎_elim
    (λ (same : k ≡ suc n). subst (λ j. (steps j s).machine.ending ≡ machine.Running) (sym same) runs)
    (λ rest. ⊎_elim
    (λ (less : k < suc n). running_before s n k (omega (arith, less)) (step_running (steps n s) runs))
    (λ (more : suc n < k). absurd (omega (arith, more, within))) rest)
    (cases_order k (suc n))

pub file_goes_on : (file : List ℕ) → GoesOn (run_of_file file)
unfolding flat_run
file_goes_on file input n k within runs =
    running_before (record { machine = start file; input = input; output = [] }) n k within runs

runs_once : (found : Option ElfRefusal) (Runs : Ending → Type 0) → ((a b : Ending) → Runs a → Runs b → a ≡ b)
    → (a b : Ending)
    → MatchOption found (Runs a) (λ why. a ≡ File (Refused (Elf why)))
    → MatchOption found (Runs b) (λ why. b ≡ File (Refused (Elf why))) → a ≡ b
runs_once None Runs once a b at_a at_b = once a b at_a at_b
runs_once (Some why) Runs once a b at_a at_b = at_a ∙ sym at_b

-- the run of a file has one ending
run_once : (input : Option (List ℕ)) (bound : ℕ) (file : List ℕ) (a b : Ending) → Comes input bound file a
    → Comes input bound file b → a ≡ b
run_once input bound file a b at_a at_b = runs_once (refusal file) (InputEnds input bound (run_of_file file))
    (input_once (run_of_file file) (file_goes_on file) input bound) a b at_a at_b

known_file : (found : Option ElfRefusal) (input : Option (List ℕ)) (bound : ℕ) (file : List ℕ) (due brought : Ending)
    → MatchOption found (InputEnds input bound (run_of_file file) due) (λ why. due ≡ File (Refused (Elf why)))
    → MatchOption found (RunsTo input bound (run_of_file file) brought) (λ why. brought ≡ File (Refused (Elf why)))
    → MatchOption found (InputEnds input bound (run_of_file file) brought) (λ why. brought ≡ File (Refused (Elf why)))
known_file None input bound file due brought at_due at_brought =
    known_run (run_of_file file) input bound due brought at_due at_brought
known_file (Some why) input bound file due brought at_due at_brought = at_brought

-- what was read of told contents brings `run` to what these come to
run_told : (steps : ℕ) (name : List ℕ) (contents : Contents) (before now : Outside) (due brought : Ending)
    → before.files.told ≡ Some contents → RunComes steps name contents before.input.told due
    → RunBrings steps name before now brought
    → RunComes steps name contents before.input.told brought
run_told steps name contents before now due brought told comes (inl none) =
    no_file_comes run_limit (Comes before.input.told steps) contents name before.files now.files brought told none
run_told steps name contents before now due brought told comes (inr (file, read, runs)) =
    let is : contents_of contents name ≡ Some file = subst (λ seen. IsToldAt seen name file) told read.told in
    told_comes run_limit (Comes before.input.told steps) contents name file brought is read.within
    (known_file (refusal file) before.input.told steps file due brought
    (of_told_comes run_limit (Comes before.input.told steps) contents name file due is read.within comes) runs)

-- a file that was read doesn't bring it where neither a run nor a refusal does
of_file : (file : List ℕ) (Runs : Ending → Type 0) (ending : Ending) → (Runs ending → ⊥)
    → ((why : ElfRefusal) → ending ≡ File (Refused (Elf why)) → ⊥) → FileRuns file Runs ending → ⊥
of_file file Runs ending runs refused comes = at (refusal file) comes
  where
    at : (found : Option ElfRefusal) → MatchOption found (Runs ending) (λ why. ending ≡ File (Refused (Elf why))) → ⊥
    at None by = runs by
    at (Some why) is = refused why is

-- `run` isn't done in silence
run_never_done : (steps : ℕ) (name : List ℕ) (before now : Outside) → RunBrings steps name before now Done → ⊥
run_never_done steps name before now (inl (inl (is, lacks))) = cc
run_never_done steps name before now (inl (inr (is, long))) = cc
run_never_done steps name before now (inr (file, read, runs)) =
    of_file file (RunsTo before.input.told steps (run_of_file file)) Done
    (never_done (run_of_file file) before.input.told steps) (λ why is. cc) runs

-- only told contents lack the file
run_lacks : (steps : ℕ) (name : List ℕ) (before now : Outside) → RunBrings steps name before now ReadFault
    → (contents : Contents) × (before.files.told ≡ Some contents)
    × RunComes steps name contents before.input.told ReadFault
run_lacks steps name before now (inl (inl (is, lacks))) =
    lacks_told run_limit (Comes before.input.told steps) before.files.told name lacks
run_lacks steps name before now (inl (inr (is, long))) = absurd (cc)
run_lacks steps name before now (inr (file, read, runs)) = absurd (of_file file
    (RunsTo before.input.told steps (run_of_file file)) ReadFault
    (never_fails (run_of_file file) before.input.told steps) (λ why is. cc) runs)

-- where a run is started, what is told brings it to no refusal
run_started : (steps : ℕ) (name : List ℕ) (contents : Contents) (before now : Outside) (due : Ending)
    → before.files.told ≡ Some contents
    → RunComes steps name contents before.input.told due → IsLoaded name before.files now.files → MayWrite due
run_started steps name contents before now due told comes (file, (read, none)) =
    let is : contents_of contents name ≡ Some file = subst (λ seen. IsToldAt seen name file) told read.told in
    input_writes (run_of_file file) before.input.told steps due (subst
    (λ (found : Option ElfRefusal). MatchOption found (InputEnds before.input.told steps (run_of_file file) due)
    (λ why. due ≡ File (Refused (Elf why)))) none
    (of_told_comes run_limit (Comes before.input.told steps) contents name file due is read.within comes))

pub run_laws : Laws run_entry
run_laws = record {
  due = λ given contents before now due brought told comes brings.
      file_once run_limit (Comes before.input.told (steps_in given)) (run_once before.input.told (steps_in given))
      (contents_of contents (operand_in given 0)) brought due
      (run_told (steps_in given) (operand_in given 0) contents before now due brought told comes brings) comes;
  started = λ given contents before now due told comes started. run_started (steps_in given)
      (operand_in given 0) contents before now due told comes started;
  lacking = λ given before now brings. run_lacks (steps_in given) (operand_in given 0) before now brings;
  done = λ given before now ending success line quiet brings leaves. run_leaves_done run_of_file
      (Loads (operand_in given 0) before.outside.files now.outside.files) (steps_in given) before now ending success
      line
      (λ is. run_never_done (steps_in given) (operand_in given 0) before.outside now.outside
      (subst (λ e. RunBrings (steps_in given) (operand_in given 0) before.outside now.outside e) is brings)) leaves;
  silent = λ given before now ending one leaves. run_leaves_silent run_of_file
      (Loads (operand_in given 0) before.files now.files) (steps_in given) before now ending one leaves;
  lacks = λ given before now ending is leaves. ⊎_elim (λ unmoved. inl unmoved) (λ lacked. absurd lacked.2)
      (run_leaves_lacks run_of_file (Loads (operand_in given 0) before.files now.files) (steps_in given) before now
      ending is leaves);
}
