-- Turns that neither read, write nor end, by what the instruction does.
use Rattle.std.proofs.Common.{◌≡◌, ℕ, zero, suc, ◌+◌, List, Bool, true, false, [], refl, ap, sym, ◌∙◌, add-one, arith}
use Rattle.std.specs.Prelude.{Option, Some, None}
use Rattle.rv_isa.specs.declared.Instr.{Instr}
use Rattle.machine_spec.specs.declared.Ending.{Ending}
use Rattle.machine_spec.specs.declared.Ending.TheVariants.{Running}
use Rattle.machine_run.specs.Machines.{GoesQuietly}
use Rattle.sym_spec.specs.declared.StepNote.{StepNote}
use Rattle.sym_spec.specs.SymCalls.{SymTurn, quiet}
use Rattle.sym_spec.specs.SymMachine.{SymMachine}
use Rattle.sym_spec.specs.SymNotes.{empty_note, is_fault, ending_note, note}
use Rattle.sym_spec.specs.SymTurns.{acts, executes, turn as machine_turn}
use Rattle.sym_machine.specs.declared.found.Found.{Found}
use Rattle.sym_machine.specs.declared.found.Found.TheVariants as found
use Rattle.sym_machine.specs.Found.{found_at, IsInstrAt}
use Rattle.sym_machine.specs.Programs.{Program, turn, turned}
use Rattle.sym_machine.specs.QuietTurns.{Does, GoesOn, IsQuiet, TakesOne}
use Rattle.sym_machine.specs.Rules.{sym_rules}
use Rattle.sym_machine.specs.Turning.{instr_noted, note_found, runs_found}
use Rattle.sym_machine.proofs.Finding.{turn_running}
use Rattle.sym_machine.proofs.Stepping.{by_fault}

-- how the turn of an instruction at no site ends
ends_running : (i : Instr) (mask : Option ℕ) (old : Program) → old.machine.ending ≡ Running
    → found.Word (Some i) false mask ≡ found_at old.file old.plan old.machine.pc
    → executes old.file old.plan [] (Some i) old.machine ≡ quiet [] (acts old.file old.plan i old.machine)
    → (machine_turn old.file old.plan [] old.machine).next.ending ≡ (acts old.file old.plan i old.machine).ending
unfolding turn
ends_running i mask old runs is quiet_is =
    ap (λ t. t.next.machine.ending) (turn_running old [] (found.Word (Some i) false mask) runs is)
    ∙ ap (λ (t : SymTurn). t.next.ending) quiet_is

-- the turn of an instruction at no site
takes_one : (b : Bool) (i : Instr) (mask : Option ℕ) (old new : Program) → old.machine.ending ≡ Running
    → found.Word (Some i) false mask ≡ found_at old.file old.plan old.machine.pc
    → Does b (acts old.file old.plan i old.machine) old new
    → ((input : List ℕ) → b ≡ true → executes old.file old.plan input (Some i) old.machine
    ≡ quiet input (acts old.file old.plan i old.machine))
    → (b ≡ true → instr_noted old.file (Some i) false old.machine ≡ empty_note)
    → TakesOne b old new
takes_one false i mask old new runs is does quiet_is note_is = does
takes_one true i mask old new runs is does quiet_is note_is =
    let goes : (input : List ℕ) → turn input old
    ≡ turned old (quiet input (acts old.file old.plan i old.machine)) = λ input.
    turn_running old input (found.Word (Some i) false mask) runs is ∙ ap (turned old) (quiet_is input refl) in
    record {
      runs = runs;
      turns = λ input. goes input ∙ sym (rw does.0 refl);
      note = noted;
      goes = rw does.0 (does.1 ∙ runs);
      at = rw does.0 does.2;
    }
  where
    noted : note old.file old.plan old.machine ≡ empty_note
    noted =
        by_fault old false runs (ap is_fault (ends_running i mask old runs is (quiet_is [] refl) ∙ does.1 ∙ runs))
        ∙ ap (λ (f : Found). note_found old.file old.plan f old.machine) (sym is) ∙ note_is refl

pub takes_there : (b : Bool) (i : Instr) (old new : Program) → old.machine.ending ≡ Running
    → IsInstrAt old.file old.plan old.machine.pc i
    → Does b (acts old.file old.plan i old.machine) old new
    → ((input : List ℕ) → b ≡ true → executes old.file old.plan input (Some i) old.machine
    ≡ quiet input (acts old.file old.plan i old.machine))
    → (b ≡ true → instr_noted old.file (Some i) false old.machine ≡ empty_note)
    → TakesOne b old new
takes_there b i old new runs at does quiet_is note_is =
    takes_one b i at.0 old new runs at.1 does quiet_is note_is

-- one more turn
pub one_more : (n : ℕ) (old mid new : Program) → GoesOn n old mid → TakesOne true mid new → GoesOn (n + 1) old new
one_more n old mid new led takes = rw (add-one n) (mid, led, takes)

-- they are turns by the machine's rules
pub goes_quietly : (n : ℕ) (old new : Program) → GoesOn n old new → GoesQuietly sym_rules n old new
goes_quietly zero old new h = h
goes_quietly (suc n) old new h = (h.0, goes_quietly n old h.0 h.1, h.2.runs, h.2.turns)

pub goes_running : (n : ℕ) (old new : Program) → old.machine.ending ≡ Running → GoesOn n old new
    → new.machine.ending ≡ Running
goes_running zero old new runs h = rw h runs
goes_running (suc n) old new runs h = h.2.goes

pub goes_at : (n : ℕ) (old new : Program) → GoesOn n old new → new.machine.at ≡ old.machine.at
goes_at zero old new h = rw h refl
goes_at (suc n) old new h = h.2.at ∙ goes_at n old h.0 h.1
