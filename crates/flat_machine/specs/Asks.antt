-- What the next turn of a machine wants of the outside.
use Rattle.std.specs.Prelude.{◌≡◌, ℕ, ◌==◌, ◌&&◌, ◌||◌, not, Option, Some, None, is_some, if◌then◌else◌}
use Rattle.rv_isa.specs.declared.Instr.{Instr}
use Rattle.rv_isa.specs.declared.Instr.TheVariants.{Ecall}
use Rattle.rv_isa.specs.Table.{decoded}
use Rattle.machine_spec.specs.declared.Ending.{Ending}
use Rattle.machine_spec.specs.declared.Ending.TheVariants.{Running, Exit, Illegal, Fault}
use Rattle.machine_spec.specs.Calls.{Call, Read, Write, Exits, Brk, Unknown, call_of}
use Rattle.flat_spec.specs.Stores.{bytes_from, can_store, fetched}
use Rattle.flat_spec.specs.Machine.{Machine, register}
use Rattle.machine_run.specs.Machines.{Asks, Nothing, Input, Output}

-- a read from descriptor 0 whose buffer can be stored to wants input where a2 isn't 0;
-- a write to descriptor 1 or 2 whose bytes are in memory writes, also where a2 is 0
abbrev pub asks_by : Call → Machine → Asks
asks_by Read m =
    if (register m 10 == 0) && can_store m.memory (register m 11) (register m 12) && not (register m 12 == 0)
    then Input (register m 12) else Nothing
asks_by Write m =
    if ((register m 10 == 1) || (register m 10 == 2)) && is_some (bytes_from m.memory (register m 11) (register m 12))
    then Output (register m 12) else Nothing
asks_by Exits m = Nothing
asks_by Brk m = Nothing
asks_by Unknown m = Nothing

-- no instruction but a system call wants anything
abbrev pub asks_instr : Option Instr → Machine → Asks
asks_instr (Some Ecall) m = asks_by (call_of (register m 17)) m
asks_instr (Some i) m = Nothing
asks_instr None m = Nothing

abbrev pub asks_word : Option ℕ → Machine → Asks
asks_word (Some w) m = asks_instr (decoded w) m
asks_word None m = Nothing

-- nor does an ended machine
abbrev pub asks_of : Ending → Machine → Asks
asks_of Running m = asks_word (fetched m.memory m.pc) m
asks_of (Exit status) m = Nothing
asks_of (Illegal at) m = Nothing
asks_of (Fault kind at) m = Nothing

unfoldable pub asks : Machine → Asks
asks m = asks_of m.ending m

-- the machine stands at a read that wants input
abbrev pub IsAtRead : Machine → Type 0
IsAtRead m = asks m ≡ Input (register m 12)
