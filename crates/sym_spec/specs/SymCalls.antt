-- The system calls of the symbol machine. A call is tested in this order: first the registers that it
-- uses (F4), then its buffer (F1), then the bytes that it would write (F4).
use Rattle.std.specs.Prelude.{ℕ, ◌%◌, ◌==◌, List, [], ◌||◌, Option, Some, None, if◌then◌else◌, take, drop, length}
use Rattle.machine_spec.specs.declared.Ending.TheVariants.{Exit}
use Rattle.machine_spec.specs.declared.FaultKind.TheVariants.{F1, F4}
use Rattle.machine_spec.specs.Calls.{Call, Read, Write, Exits, Brk, Unknown, call_of, bad_descriptor, no_such_call}
use Rattle.sym_value.specs.declared.Value.{Value}
use Rattle.sym_value.specs.declared.Value.TheVariants.{Num, Ptr}
use Rattle.sym_cells.specs.Memory.{Memory}
use Rattle.sym_cells.specs.Buffers.{is_within, taken, filled}
use Rattle.sym_spec.specs.Plain.{is_plain, is_plain_store}
use Rattle.sym_spec.specs.SymMachine.{SymMachine, value_of, gives, ends, faults}

-- one turn: the machine after it, the bytes that it wrote and the input that it left
pub record SymTurn : Type 0 where
  pub next : SymMachine
  pub written : List ℕ
  pub left : List ℕ

abbrev pub quiet : List ℕ → SymMachine → SymTurn
quiet input m = record { next = m; written = []; left = input }

-- the call's answer, in a0
abbrev pub answers : ℕ → SymMachine → SymMachine
answers v m = gives 10 (Num v) m

-- the word that a register holds; none where it isn't decided
abbrev pub number_of_value : Value → Option ℕ
number_of_value (Num w) = Some w
number_of_value v = None

-- where a buffer starts that a register holds: a number or a pointer; none where it isn't decided
abbrev pub pointer_in : Value → Option Value
pointer_in (Num a) = Some (Num a)
pointer_in (Ptr b o) = Some (Ptr b o)
pointer_in v = None

-- the start of a buffer of n bytes, which is used only where n isn't 0
abbrev pub buffer_in : ℕ → Value → Option Value
buffer_in n v = if n == 0 then Some (Num 0) else pointer_in v

-- a read of at most n bytes that left this memory; none where not all n bytes can be stored to
abbrev pub reads_into : List ℕ → ℕ → Option Memory → SymMachine → SymTurn
reads_into input n (Some memory) m = record {
  next = answers (length (take n input)) (record m { memory = memory });
  written = [];
  left = drop n input;
}
reads_into input n None m = quiet input (faults F1 m)

-- a read of at most n bytes to a buffer
abbrev pub reads_to : List ℕ → List ℕ → ℕ → Option Value → SymMachine → SymTurn
reads_to file input n (Some p) m = reads_into input n (filled (is_plain_store file) m.memory n (take n input) p) m
reads_to file input n None m = quiet input (faults F4 m)

-- a write of n bytes, where they are known
abbrev pub writes_known : List ℕ → ℕ → Option (List ℕ) → SymMachine → SymTurn
writes_known input n (Some bytes) m = record { next = answers n m; written = bytes; left = input }
writes_known input n None m = quiet input (faults F4 m)

-- a write of the n bytes of a buffer, where they can be reached
abbrev pub writes_from : List ℕ → List ℕ → ℕ → Option Value → SymMachine → SymTurn
writes_from file input n (Some p) m =
    if is_within (is_plain file) m.memory n p then writes_known input n (taken m.memory n p) m
    else quiet input (faults F1 m)
writes_from file input n None m = quiet input (faults F4 m)

-- read (63) and write (64) with a length in a2 and a buffer in a1
abbrev pub reads : List ℕ → List ℕ → Option ℕ → SymMachine → SymTurn
reads file input (Some n) m = reads_to file input n (buffer_in n (value_of m 11)) m
reads file input None m = quiet input (faults F4 m)

abbrev pub writes : List ℕ → List ℕ → Option ℕ → SymMachine → SymTurn
writes file input (Some n) m = writes_from file input n (buffer_in n (value_of m 11)) m
writes file input None m = quiet input (faults F4 m)

-- the turn of a call with the first argument in a0
abbrev pub calls_with : List ℕ → List ℕ → Call → Option ℕ → SymMachine → SymTurn
calls_with file input Read (Some fd) m =
    if fd == 0 then reads file input (number_of_value (value_of m 12)) m else quiet input (answers bad_descriptor m)
calls_with file input Write (Some fd) m =
    if (fd == 1) || (fd == 2) then writes file input (number_of_value (value_of m 12)) m else quiet input
    (answers bad_descriptor m)
calls_with file input Exits (Some status) m = quiet input (ends (Exit (status % 256)) m)
calls_with file input Brk first m = quiet input (answers 0 m)
calls_with file input Unknown first m = quiet input (answers no_such_call m)
calls_with file input call None m = quiet input (faults F4 m)

-- the call whose number is in a7
abbrev pub calls_by : List ℕ → List ℕ → Option ℕ → SymMachine → SymTurn
calls_by file input (Some number) m = calls_with file input (call_of number) (number_of_value (value_of m 10)) m
calls_by file input None m = quiet input (faults F4 m)

unfoldable pub calls : List ℕ → List ℕ → SymMachine → SymTurn
calls file input m = calls_by file input (number_of_value (value_of m 17)) m
