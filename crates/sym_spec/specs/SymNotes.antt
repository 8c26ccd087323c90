-- What a turn of the symbol machine does besides, as far as contexts and accesses go, from the machine
-- before it. A turn without an effect of its own, as one of an ended machine or one that faults, has no
-- part. The turn of a heap function has its grant, its release and its way back, and no access.
use Rattle.std.specs.Prelude.{ℕ, ◌==◌, [], List, Bool, true, false, ◌||◌, Option, Some, None, option_map, if◌then◌else◌}
use Rattle.rv_isa.specs.declared.Instr.{Instr}
use Rattle.rv_isa.specs.declared.Instr.TheVariants.{Jalr, Load, Store, Ecall}
use Rattle.rv_isa.specs.Table.{decoded}
use Rattle.machine_spec.specs.Widths.{size_of}
use Rattle.machine_spec.specs.declared.Ending.{Ending}
use Rattle.machine_spec.specs.declared.Ending.TheVariants.{Running, Exit, Illegal, Fault}
use Rattle.machine_spec.specs.Calls.{Call, Read, Write, call_of}
use Rattle.plan_core.specs.declared.types.Plan.{Plan}
use Rattle.site_spec.specs.Sites.{site_at}
use Rattle.sym_value.specs.declared.Value.{Value}
use Rattle.sym_value.specs.declared.Value.TheVariants.{Ptr, Ret}
use Rattle.sym_spec.specs.declared.BlockAccess.{BlockAccess}
use Rattle.sym_spec.specs.declared.StepNote.{StepNote}
use Rattle.sym_spec.specs.SymMachine.{SymMachine, value_of}
use Rattle.sym_spec.specs.SymCalls.{number_of_value}
use Rattle.sym_spec.specs.HeapActions.{Outcome, outcome}
use Rattle.sym_spec.specs.SymTurns.{Here, Nothing, Heap, Pair, Code, here, address_of, turn}

abbrev pub empty_note : StepNote
empty_note = record { call = None; back = None; grant = None; release = None; access = None }

-- an access to so many bytes from a value on, where that is a pointer
abbrev pub access_to : Value → ℕ → Option BlockAccess
access_to (Ptr b o) n = Some (record { block = b; width = n })
access_to v n = None

-- the buffer of a system call: one is used by a read from 0 and by a write to 1 or 2, where it isn't empty
abbrev pub uses_buffer : Call → Option ℕ → Bool
uses_buffer Read (Some fd) = fd == 0
uses_buffer Write (Some fd) = (fd == 1) || (fd == 2)
uses_buffer call first = false

abbrev pub buffer_access : Option ℕ → SymMachine → Option BlockAccess
buffer_access (Some n) m = if n == 0 then None else access_to (value_of m 11) n
buffer_access None m = None

abbrev pub call_access : Option ℕ → SymMachine → Option BlockAccess
call_access (Some number) m =
    if uses_buffer (call_of number) (number_of_value (value_of m 10))
    then buffer_access (number_of_value (value_of m 12)) m else None
call_access None m = None

abbrev pub access_of : List ℕ → Instr → SymMachine → Option BlockAccess
access_of file (Load width rd rs1 imm) m = access_to (address_of file m rs1 imm) (size_of width)
access_of file (Store width rs1 rs2 imm) m = access_to (address_of file m rs1 imm) (size_of width)
access_of file Ecall m = call_access (number_of_value (value_of m 17)) m
access_of file i m = None

-- the return address through which a jump goes
abbrev pub return_in : Value → Option ℕ
return_in (Ret a) = Some a
return_in v = None

abbrev pub back_through : Instr → SymMachine → Option ℕ
back_through (Jalr rd rs1 imm) m = return_in (value_of m rs1)
back_through i m = None

-- the note of an instruction that doesn't fault; a call at any site has the site's address
abbrev pub instr_note : List ℕ → Option Instr → SymMachine → StepNote
instr_note file (Some i) m = record empty_note {
  call = option_map (λ s. m.pc) (site_at file m.pc);
  back = back_through i m;
  access = access_of file i m;
}
instr_note file None m = empty_note

-- the note of a heap function that doesn't fault
abbrev pub heap_note : Option Outcome → SymMachine → StepNote
heap_note (Some o) m = record empty_note { back = return_in (value_of m 1); grant = o.grant; release = o.release }
heap_note None m = empty_note

abbrev pub here_note : List ℕ → Plan → Here → SymMachine → StepNote
here_note file plan Nothing m = empty_note
here_note file plan (Heap name) m = heap_note (outcome file plan name m) m
here_note file plan (Pair s) m = record empty_note { call = Some m.pc }
here_note file plan (Code w) m = instr_note file (decoded w) m

abbrev pub is_fault : Ending → Bool
is_fault Running = false
is_fault (Exit status) = false
is_fault (Illegal at) = false
is_fault (Fault kind at) = true

abbrev pub ending_note : List ℕ → Plan → Ending → SymMachine → StepNote
ending_note file plan Running m =
    if is_fault (turn file plan [] m).next.ending then empty_note else here_note file plan (here file m.pc) m
ending_note file plan ending m = empty_note

-- the note of the turn; whether it faults doesn't depend on the input
unfoldable pub note : List ℕ → Plan → SymMachine → StepNote
note file plan m = ending_note file plan m.ending m
