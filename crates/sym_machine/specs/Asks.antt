-- What the next turn of a symbol machine wants of the outside.
use Rattle.std.specs.Prelude.{ℕ, ◌==◌, ◌||◌, List, Option, Some, None, if◌then◌else◌}
use Rattle.rv_isa.specs.declared.Instr.{Instr}
use Rattle.rv_isa.specs.declared.Instr.TheVariants.{Ecall}
use Rattle.rv_isa.specs.Table.{decoded}
use Rattle.machine_spec.specs.declared.Ending.{Ending}
use Rattle.machine_spec.specs.declared.Ending.TheVariants.{Running}
use Rattle.machine_spec.specs.Calls.{Call, Read, Write, call_of}
use Rattle.machine_run.specs.Machines.{Asks, Nothing, Input, Output}
use Rattle.sym_value.specs.declared.Value.{Value}
use Rattle.sym_cells.specs.Buffers.{is_within, taken}
use Rattle.sym_spec.specs.Plain.{is_plain, is_plain_store}
use Rattle.sym_spec.specs.SymMachine.{SymMachine, value_of}
use Rattle.sym_spec.specs.SymCalls.{number_of_value, buffer_in}
use Rattle.sym_spec.specs.SymTurns.{Here, Code, here}
use Rattle.sym_machine.specs.Programs.{Program}

-- a read of n bytes into a buffer that can be stored to wants input where n isn't 0
abbrev pub asks_input : ℕ → Asks
asks_input n = if n == 0 then Nothing else Input n

abbrev pub asks_into : List ℕ → SymMachine → ℕ → Option Value → Asks
asks_into file m n (Some p) = if is_within (is_plain_store file) m.memory n p then asks_input n else Nothing
asks_into file m n None = Nothing

-- a write of the bytes of a buffer that are known writes, also where they are none
abbrev pub asks_output : ℕ → Option (List ℕ) → Asks
asks_output n (Some bytes) = Output n
asks_output n None = Nothing

abbrev pub asks_from : List ℕ → SymMachine → ℕ → Option Value → Asks
asks_from file m n (Some p) =
    if is_within (is_plain file) m.memory n p then asks_output n (taken m.memory n p) else Nothing
asks_from file m n None = Nothing

abbrev pub asks_read : List ℕ → SymMachine → Option ℕ → Asks
asks_read file m (Some n) = asks_into file m n (buffer_in n (value_of m 11))
asks_read file m None = Nothing

abbrev pub asks_write : List ℕ → SymMachine → Option ℕ → Asks
asks_write file m (Some n) = asks_from file m n (buffer_in n (value_of m 11))
asks_write file m None = Nothing

-- by the call and its descriptor: a read is one from 0, a write one to 1 or 2
abbrev pub asks_with : List ℕ → SymMachine → Call → Option ℕ → Asks
asks_with file m Read (Some fd) = if fd == 0 then asks_read file m (number_of_value (value_of m 12)) else Nothing
asks_with file m Write (Some fd) =
    if (fd == 1) || (fd == 2) then asks_write file m (number_of_value (value_of m 12)) else Nothing
asks_with file m call first = Nothing

abbrev pub asks_by : List ℕ → SymMachine → Option ℕ → Asks
asks_by file m (Some number) = asks_with file m (call_of number) (number_of_value (value_of m 10))
asks_by file m None = Nothing

-- no instruction but a system call wants anything
abbrev pub asks_instr : List ℕ → SymMachine → Option Instr → Asks
asks_instr file m (Some Ecall) = asks_by file m (number_of_value (value_of m 17))
asks_instr file m instr = Nothing

abbrev pub asks_here : List ℕ → SymMachine → Here → Asks
asks_here file m (Code w) = asks_instr file m (decoded w)
asks_here file m h = Nothing

-- nor does an ended machine
abbrev pub asks_of : List ℕ → SymMachine → Ending → Asks
asks_of file m Running = asks_here file m (here file m.pc)
asks_of file m ending = Nothing

unfoldable pub asks : Program → Asks
asks p = asks_of p.file p.machine p.machine.ending
