-- The system calls of the flat machine. A call changes a0 and the buffer of a read alone; at an exit
-- the pc stays.
use Rattle.std.specs.Prelude.{ℕ, ◌%◌, ◌==◌, List, [], ◌||◌, Option, Some, None, if◌then◌else◌, take, drop, length}
use Rattle.machine_spec.specs.declared.Ending.TheVariants.{Exit}
use Rattle.machine_spec.specs.declared.FaultKind.TheVariants.{F1}
use Rattle.machine_spec.specs.Calls.{Call, Read, Write, Exits, Brk, Unknown, call_of, bad_descriptor, no_such_call}
use Rattle.flat_spec.specs.Stores.{bytes_from, can_store, put_bytes}
use Rattle.flat_spec.specs.Machine.{Machine, register, gives, ends, faults}

-- one turn: the machine after it, the bytes that it wrote and the input that it left
pub record Turn : Type 0 where
  pub next : Machine
  pub written : List ℕ
  pub left : List ℕ

-- a turn that neither reads nor writes
abbrev pub quiet : List ℕ → Machine → Turn
quiet input m = record { next = m; written = []; left = input }

-- the call's answer, in a0
abbrev pub answers : ℕ → Machine → Machine
answers v m = gives 10 v m

-- read (63) from descriptor 0: the next bytes of the input, at most a2, go to a1; every byte of the
-- buffer must be storable, also where the input has fewer
abbrev pub reads : List ℕ → Machine → Turn
reads input m =
    let piece : List ℕ = take (register m 12) input in
    if can_store m.memory (register m 11) (register m 12)
    then record {
      next = answers (length piece) (record m { memory = put_bytes m.memory (register m 11) piece });
      written = [];
      left = drop (register m 12) input;
    }
    else quiet input (faults F1 m)

-- write (64) to descriptor 1 or 2: the a2 bytes at a1 are written
abbrev pub writes : List ℕ → Option (List ℕ) → Machine → Turn
writes input (Some bytes) m = record { next = answers (register m 12) m; written = bytes; left = input }
writes input None m = quiet input (faults F1 m)

-- the turn of a call
abbrev pub calls_by : Call → List ℕ → Machine → Turn
calls_by Read input m = if register m 10 == 0 then reads input m else quiet input (answers bad_descriptor m)
calls_by Write input m =
    if (register m 10 == 1) || (register m 10 == 2)
    then writes input (bytes_from m.memory (register m 11) (register m 12)) m
    else quiet input (answers bad_descriptor m)
calls_by Exits input m = quiet input (ends (Exit (register m 10 % 256)) m)
calls_by Brk input m = quiet input (answers 0 m)
calls_by Unknown input m = quiet input (answers no_such_call m)

unfoldable pub calls : List ℕ → Machine → Turn
calls input m = calls_by (call_of (register m 17)) input m
