-- The turn at what was found at the pc: what it does, what it asks for, and its note.
use Rattle.std.specs.Prelude.{ℕ, List, Bool, true, false, Option, Some, None, if◌then◌else◌}
use Rattle.rv_isa.specs.declared.Instr.{Instr}
use Rattle.machine_spec.specs.declared.FaultKind.TheVariants.{F6}
use Rattle.plan_core.specs.declared.types.Plan.{Plan}
use Rattle.machine_run.specs.Machines as any
use Rattle.machine_run.specs.Machines.{Asks}
use Rattle.sym_value.specs.declared.Value.{Value}
use Rattle.sym_value.specs.declared.Value.TheVariants.{Num}
use Rattle.sym_spec.specs.declared.StepNote.{StepNote}
use Rattle.sym_spec.specs.SymMachine.{SymMachine, faults, calls_from}
use Rattle.sym_spec.specs.SymCalls.{SymTurn, quiet}
use Rattle.sym_spec.specs.HeapActions.{outcome, serves}
use Rattle.sym_spec.specs.SymTurns.{executes}
use Rattle.sym_spec.specs.SymNotes.{empty_note, access_of, back_through, heap_note}
use Rattle.sym_machine.specs.declared.found.Found.{Found}
use Rattle.sym_machine.specs.declared.found.Found.TheVariants.{Nothing, Heap, Pair, Word}
use Rattle.sym_machine.specs.Asks.{asks_instr}

abbrev pub runs_found : List ℕ → Plan → List ℕ → Found → SymMachine → SymTurn
runs_found file plan input Nothing m = quiet input (faults F6 m)
runs_found file plan input (Heap name) m = quiet input (serves file plan name m)
runs_found file plan input (Pair target back mask) m = quiet input (record (calls_from plan back m) { pc = target })
runs_found file plan input (Word instr is_site mask) m = executes file plan input instr m

abbrev pub asks_found : List ℕ → SymMachine → Found → Asks
asks_found file m Nothing = any.Nothing
asks_found file m (Heap name) = any.Nothing
asks_found file m (Pair target back mask) = any.Nothing
asks_found file m (Word instr is_site mask) = asks_instr file m instr

abbrev pub call_noted : Bool → ℕ → Option ℕ
call_noted is_site pc = if is_site then Some pc else None

abbrev pub instr_noted : List ℕ → Option Instr → Bool → SymMachine → StepNote
instr_noted file (Some i) is_site m = record empty_note {
  call = call_noted is_site m.pc;
  back = back_through i m;
  access = access_of file i m;
}
instr_noted file None is_site m = empty_note

-- an address that reaches no block
abbrev pub is_number : Value → Bool
is_number (Num w) = true
is_number v = false

abbrev pub note_found : List ℕ → Plan → Found → SymMachine → StepNote
note_found file plan Nothing m = empty_note
note_found file plan (Heap name) m = heap_note (outcome file plan name m) m
note_found file plan (Pair target back mask) m = record empty_note { call = Some m.pc }
note_found file plan (Word instr is_site mask) m = instr_noted file instr is_site m
