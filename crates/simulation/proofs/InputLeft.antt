-- What a turn of the symbol machine leaves of its input is bytes, where the input is.
use Rattle.std.proofs.Common.{ℕ, ◌<◌, ◌==◌, List, Bool, true, false, cond, take}
use Rattle.std.specs.Prelude.{Option, Some, None, ◌||◌}
use Rattle.std.specs.List.{All}
use Rattle.std.proofs.lemmas.List.Elements.{All-drop}
use Rattle.rv_isa.specs.declared.Instr.{Instr}
use Rattle.rv_isa.specs.declared.Instr.TheVariants.{Ecall}
use Rattle.rv_isa.specs.Table.{decoded}
use Rattle.plan_core.specs.declared.types.Plan.{Plan}
use Rattle.machine_spec.specs.Calls.{Call, Read, Write, Exits, Brk, Unknown, call_of}
use Rattle.machine_spec.specs.declared.Ending.{Ending}
use Rattle.machine_spec.specs.declared.Ending.TheVariants.{Running, Exit, Illegal, Fault}
use Rattle.sym_value.specs.declared.Value.{Value}
use Rattle.sym_cells.specs.Memory.{Memory}
use Rattle.sym_cells.specs.Buffers.{is_within, taken, filled}
use Rattle.sym_spec.specs.Plain.{is_plain, is_plain_store}
use Rattle.sym_spec.specs.SymMachine.{SymMachine, value_of}
use Rattle.sym_spec.specs.SymCalls.{SymTurn, buffer_in, calls, calls_by, calls_with, reads, reads_into, reads_to}
use Rattle.sym_spec.specs.SymCalls.{number_of_value, writes, writes_from, writes_known}
use Rattle.sym_spec.specs.SymTurns.{Here, Nothing, Heap, Pair, Code, executes, here, runs_here, turn, turn_of}

abbrev AreBytes : List ℕ → Type 0
AreBytes bs = All (λ b. b < 256) bs

-- of one of two turns
one_of : (t : Bool) (x y : SymTurn) → AreBytes x.left → AreBytes y.left → AreBytes (cond t x y).left
one_of true x y h k = h
one_of false x y h k = k

into_left : (input : List ℕ) (n : ℕ) (o : Option Memory) (m : SymMachine) → AreBytes input
    → AreBytes (reads_into input n o m).left
into_left input n (Some memory) m h = All-drop (λ b. b < 256) n input h
into_left input n None m h = h

read_left : (file input : List ℕ) (n : ℕ) (o : Option Value) (m : SymMachine) → AreBytes input
    → AreBytes (reads_to file input n o m).left
read_left file input n (Some p) m h = into_left input n (filled (is_plain_store file) m.memory n (take n input) p) m h
read_left file input n None m h = h

known_left : (input : List ℕ) (n : ℕ) (o : Option (List ℕ)) (m : SymMachine) → AreBytes input
    → AreBytes (writes_known input n o m).left
known_left input n (Some bytes) m h = h
known_left input n None m h = h

write_left : (file input : List ℕ) (n : ℕ) (o : Option Value) (m : SymMachine) → AreBytes input
    → AreBytes (writes_from file input n o m).left
write_left file input n (Some p) m h = one_of (is_within (is_plain file) m.memory n p) _ _
    (known_left input n (taken m.memory n p) m h) h
write_left file input n None m h = h

reads_left : (file input : List ℕ) (o : Option ℕ) (m : SymMachine) → AreBytes input
    → AreBytes (reads file input o m).left
reads_left file input (Some n) m h = read_left file input n (buffer_in n (value_of m 11)) m h
reads_left file input None m h = h

writes_left : (file input : List ℕ) (o : Option ℕ) (m : SymMachine) → AreBytes input
    → AreBytes (writes file input o m).left
writes_left file input (Some n) m h = write_left file input n (buffer_in n (value_of m 11)) m h
writes_left file input None m h = h

with_left : (file input : List ℕ) (call : Call) (o : Option ℕ) (m : SymMachine) → AreBytes input
    → AreBytes (calls_with file input call o m).left
with_left file input Read (Some fd) m h =
    one_of (fd == 0) _ _ (reads_left file input (number_of_value (value_of m 12)) m h) h
with_left file input Write (Some fd) m h =
    one_of ((fd == 1) || (fd == 2)) _ _ (writes_left file input (number_of_value (value_of m 12)) m h) h
with_left file input Exits (Some status) m h = h
with_left file input Brk first m h = h
with_left file input Unknown first m h = h
with_left file input call None m h = h

call_left : (file input : List ℕ) (o : Option ℕ) (m : SymMachine) → AreBytes input
    → AreBytes (calls_by file input o m).left
call_left file input (Some number) m h = with_left file input (call_of number) (number_of_value (value_of m 10)) m h
call_left file input None m h = h

executed_left : (file : List ℕ) (plan : Plan) (input : List ℕ) (o : Option Instr) (m : SymMachine) → AreBytes input
    → AreBytes (executes file plan input o m).left
unfolding calls
executed_left file plan input (Some Ecall) m h = call_left file input (number_of_value (value_of m 17)) m h
executed_left file plan input None m h = h
executed_left file plan input (Some i) m h = h

here_left : (file : List ℕ) (plan : Plan) (input : List ℕ) (x : Here) (m : SymMachine) → AreBytes input
    → AreBytes (runs_here file plan input x m).left
here_left file plan input Nothing m h = h
here_left file plan input (Heap name) m h = h
here_left file plan input (Pair s) m h = h
here_left file plan input (Code w) m h = executed_left file plan input (decoded w) m h

ending_left : (file : List ℕ) (plan : Plan) (input : List ℕ) (e : Ending) (m : SymMachine) → AreBytes input
    → AreBytes (turn_of file plan e input m).left
ending_left file plan input Running m h = here_left file plan input (here file m.pc) m h
ending_left file plan input (Exit status) m h = h
ending_left file plan input (Illegal at) m h = h
ending_left file plan input (Fault kind at) m h = h

pub bytes_left : (file : List ℕ) (plan : Plan) (input : List ℕ) (m : SymMachine) → AreBytes input
    → AreBytes (turn file plan input m).left
unfolding turn
bytes_left file plan input m h = ending_left file plan input m.ending m h
