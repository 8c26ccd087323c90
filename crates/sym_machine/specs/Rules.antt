-- The symbol machine's rules, for runs.
use Rattle.std.specs.Prelude.{ℕ, List, Bool, Option, Some, None, is_some}
use Rattle.machine_run.specs.Machines.{Rules}
use Rattle.sym_value.specs.declared.Value.{Value}
use Rattle.sym_cells.specs.Memory.{Memory}
use Rattle.sym_spec.specs.Plain.{is_plain_store}
use Rattle.sym_spec.specs.SymMachine.{SymMachine, value_of}
use Rattle.sym_spec.specs.SymCalls.{pointer_in}
use Rattle.sym_spec.specs.SymNotes.{note}
use Rattle.sym_machine.specs.Reached.{put_from}
use Rattle.sym_machine.specs.Programs.{Program, turn}
use Rattle.sym_machine.specs.Asks.{asks}

-- memory with some bytes from where a1 points on
abbrev pub put_at : (ℕ → Bool) → List ℕ → Option Value → Memory → Memory
put_at storable bytes (Some p) m = put_from storable bytes p m
put_at storable bytes None m = m

abbrev pub fed_machine : List ℕ → SymMachine → List ℕ → SymMachine
fed_machine file m bytes =
    record m { memory = put_at (is_plain_store file) bytes (pointer_in (value_of m 11)) m.memory }

-- the machine at a read whose buffer begins with these bytes
abbrev pub fed_program : Program → List ℕ → Program
fed_program p bytes = record p { machine = fed_machine p.file p.machine bytes }

-- its turns are those of the symbol machine; only a step that grants a block may lack memory
abbrev pub sym_rules : Rules Program
sym_rules = record {
  ending = λ p. p.machine.ending;
  asks = asks;
  turn = turn;
  fed = fed_program;
  may_lack = λ p. is_some (note p.file p.plan p.machine).grant;
}
