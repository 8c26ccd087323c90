-- What is told brings `symbols` to one ending, and what was read brings it there.
use Rattle.std.proofs.Common.{◌≡◌, ◌≢◌, ◌∙◌, ℕ, zero, suc, ◌+◌, ◌<◌, inl, inr, ⊎_elim, List, [], Option, Some, refl}
use Rattle.std.proofs.Common.{sym, subst, arith}
use Rattle.std.proofs.lemmas.Bool.{cases_order}
use Rattle.halo_outside.specs.Seen.{Contents, contents_of}
use Rattle.plan_core.specs.declared.types.Plan.{Plan}
use Rattle.machine_spec.specs.declared.Ending as machine_ending
use Rattle.machine_spec.specs.declared.Ending.TheVariants as machine
use Rattle.sym_spec.specs.SymMachine.{SymMachine, start}
use Rattle.sym_spec.specs.SymTurns.{turn, turn_of}
use Rattle.sym_spec.specs.SymRuns.{SymState, step, steps, sym_run}
use Rattle.endings.specs.declared.endings.Ending.{Ending}
use Rattle.endings.specs.declared.endings.Ending.TheVariants.{Done, ReadFault}
use Rattle.halo_words.specs.Grammar.{operand_in}
use Rattle.halo_cli.specs.World.{Outside}
use Rattle.halo_cli.specs.Runs.{InputEnds, RunsTo, steps_in}
use Rattle.halo_cli.specs.Symbols.{symbol_run, TextRuns, SymbolsCome, SymbolsBring, run_of_planned, LoadsPlanned}
use Rattle.halo_cli.specs.Symbols.{IsPlanned, symbols_entry}
use Rattle.halo_cli.proofs.CommandLaws.{MayWrite, Laws}
use Rattle.halo_cli.proofs.PlanAndFileDue.{TextsOnce, text_once, text_follows, text_known, of_text, of_both, both_once}
use Rattle.halo_cli.proofs.PlanAndFileDue.{both_told, both_lack, of_read_both}
use Rattle.halo_cli.proofs.RunsOnce.{GoesOn, input_once, input_writes, known_run, never_done, never_fails}
use Rattle.halo_cli.proofs.RunLaws.{run_leaves_done, run_leaves_silent, run_leaves_lacks}

-- a machine that runs after a turn ran before it
turn_running : (file : List ℕ) (plan : Plan) (input : List ℕ) (m : SymMachine) (e : machine_ending.Ending)
    → m.ending ≡ e → (turn_of file plan e input m).next.ending ≡ machine.Running → e ≡ machine.Running
turn_running file plan input m machine.Running is runs = refl
turn_running file plan input m (machine.Exit s) is runs = sym is ∙ runs
turn_running file plan input m (machine.Illegal at) is runs = sym is ∙ runs
turn_running file plan input m (machine.Fault k at) is runs = sym is ∙ runs

step_running : (file : List ℕ) (plan : Plan) (s : SymState) → (step file plan s).machine.ending ≡ machine.Running
    → s.machine.ending ≡ machine.Running
unfolding step turn
step_running file plan s runs = turn_running file plan s.input s.machine s.machine.ending refl runs

running_before : (file : List ℕ) (plan : Plan) (s : SymState) (n k : ℕ) → k < n + 1
    → (steps file plan n s).machine.ending ≡ machine.Running → (steps file plan k s).machine.ending ≡ machine.Running
unfolding steps
running_before file plan s zero k within runs = let is : k ≡ 0 = omega (arith, within) in
    subst (λ j. (steps file plan j s).machine.ending ≡ machine.Running) (sym is) runs
running_before file plan s (suc n) k within runs = ⊎_elim
    (λ (same : k ≡ suc n). subst (λ j. (steps file plan j s).machine.ending ≡ machine.Running) (sym same) runs)
    (λ rest. ⊎_elim
    (λ (less : k < suc n). running_before file plan s n k (omega (arith, less))
    (step_running file plan (steps file plan n s) runs))
    (λ (more : suc n < k). absurd (omega (arith, more, within))) rest)
    (cases_order k (suc n))

pub plan_goes_on : (file : List ℕ) (plan : Plan) → GoesOn (symbol_run file plan)
unfolding sym_run
plan_goes_on file plan input n k within runs =
    running_before file plan (record { machine = start file plan; input = input; output = [] }) n k within runs

-- what told bytes come to
abbrev Come : Option (List ℕ) → ℕ → List ℕ → List ℕ → Ending → Type 0
Come input bound = TextRuns (InputEnds input bound)

runs_once : TextsOnce → (input : Option (List ℕ)) (bound : ℕ) (text file : List ℕ) (a b : Ending)
    → Come input bound text file a → Come input bound text file b → a ≡ b
runs_once texts input bound text file a b at_a at_b =
    text_once texts (λ plan. InputEnds input bound (symbol_run file plan))
    (λ plan a b. input_once (symbol_run file plan) (plan_goes_on file plan) input bound a b) text file a b at_a at_b

-- what was read of told contents brings `symbols` to what these come to
symbols_told : TextsOnce → (bound : ℕ) (plan_name file_name : List ℕ) (contents : Contents) (before now : Outside)
    (due brought : Ending) → before.files.told ≡ Some contents
    → SymbolsCome bound plan_name file_name contents before.input.told due
    → SymbolsBring bound plan_name file_name before now brought
    → SymbolsCome bound plan_name file_name contents before.input.told brought
symbols_told texts bound plan_name file_name contents before now due brought told comes brings =
    both_told (Come before.input.told bound) (TextRuns (RunsTo before.input.told bound)) plan_name file_name contents
    before.files now.files brought told
    (λ text file read runs. text_known texts (λ plan. InputEnds before.input.told bound (symbol_run file plan))
    (λ plan. RunsTo before.input.told bound (symbol_run file plan)) text file due brought
    (λ plan. known_run (symbol_run file plan) before.input.told bound due brought)
    (of_read_both (Come before.input.told bound) plan_name file_name contents before.files now.files text file due told
    read comes) runs)
    brings

-- `symbols` isn't done in silence
symbols_never_done : (bound : ℕ) (plan_name file_name : List ℕ) (before now : Outside)
    → SymbolsBring bound plan_name file_name before now Done → ⊥
symbols_never_done bound plan_name file_name before now brings =
    of_both (λ e. e ≢ Done) (λ why is. cc) (λ why is. cc) (λ is. cc) (TextRuns (RunsTo before.input.told bound))
    plan_name file_name before.files now.files Done (λ is. absurd (cc))
    (λ text file comes. of_text (λ e. e ≢ Done) (λ why is. cc) (λ why is. cc) (λ is. cc)
    (λ plan. RunsTo before.input.told bound (symbol_run file plan)) text file Done
    (λ plan runs. absurd (never_done (symbol_run file plan) before.input.told bound runs)) comes)
    brings refl

-- no bytes fail to be read
reads_well : (bound : ℕ) (input : Option (List ℕ)) (text file : List ℕ)
    → TextRuns (RunsTo input bound) text file ReadFault → ⊥
reads_well bound input text file comes =
    of_text (λ e. e ≢ ReadFault) (λ why is. cc) (λ why is. cc) (λ is. cc)
    (λ plan. RunsTo input bound (symbol_run file plan)) text file ReadFault
    (λ plan runs. absurd (never_fails (symbol_run file plan) input bound runs)) comes refl

-- where a run is started, what is told brings it to no refusal
symbols_started : TextsOnce → (bound : ℕ) (plan_name file_name : List ℕ) (contents : Contents) (before now : Outside)
    (due : Ending) → before.files.told ≡ Some contents
    → SymbolsCome bound plan_name file_name contents before.input.told due
    → IsPlanned plan_name file_name before.files now.files → MayWrite due
symbols_started texts bound plan_name file_name contents before now due told comes (p, (text, read, spells, none)) =
    input_writes (symbol_run p.file p.plan) before.input.told bound due
    (text_follows texts (λ plan. InputEnds before.input.told bound (symbol_run p.file plan)) text p.file p.plan due
    spells none
    (of_read_both (Come before.input.told bound) plan_name file_name contents before.files now.files text p.file due
    told read comes))

pub symbols_laws : TextsOnce → Laws symbols_entry
symbols_laws texts = record {
  due = λ given contents before now due brought told comes brings.
      both_once (Come before.input.told (steps_in given)) (runs_once texts before.input.told (steps_in given))
      (contents_of contents (operand_in given 0)) (contents_of contents (operand_in given 1)) brought due
      (symbols_told texts (steps_in given) (operand_in given 0) (operand_in given 1) contents before now due brought
      told comes brings) comes;
  started = λ given contents before now due told comes started. symbols_started texts (steps_in given)
      (operand_in given 0) (operand_in given 1) contents before now due told comes started;
  lacking = λ given before now brings.
      both_lack (Come before.input.told (steps_in given)) (TextRuns (RunsTo before.input.told (steps_in given)))
      (operand_in given 0) (operand_in given 1) before.files now.files
      (λ text file comes. reads_well (steps_in given) before.input.told text file comes) brings;
  done = λ given before now ending success line quiet brings leaves. run_leaves_done run_of_planned
      (LoadsPlanned (operand_in given 0) (operand_in given 1) before.outside.files now.outside.files) (steps_in given)
      before now ending success line
      (λ is. symbols_never_done (steps_in given) (operand_in given 0) (operand_in given 1) before.outside now.outside
      (subst (λ e. SymbolsBring (steps_in given) (operand_in given 0) (operand_in given 1) before.outside now.outside
      e) is brings)) leaves;
  silent = λ given before now ending one leaves. run_leaves_silent run_of_planned
      (LoadsPlanned (operand_in given 0) (operand_in given 1) before.files now.files) (steps_in given) before now
      ending one leaves;
  lacks = λ given before now ending is leaves.
      ⊎_elim (λ unmoved. inl unmoved) (λ lacked. inr (lacked.0, lacked.1, lacked.3))
      (run_leaves_lacks run_of_planned (LoadsPlanned (operand_in given 0) (operand_in given 1) before.files now.files)
      (steps_in given) before now ending is leaves);
}
