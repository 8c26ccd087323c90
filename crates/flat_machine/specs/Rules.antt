-- The flat machine's rules, for runs.
use Rattle.std.specs.Prelude.{false}
use Rattle.flat_spec.specs.Stores.{put_bytes}
use Rattle.flat_spec.specs.Machine.{Machine, register}
use Rattle.flat_spec.specs.Calls.{Turn}
use Rattle.flat_spec.specs.Turns.{turn}
use Rattle.machine_run.specs.Machines.{Turned, Rules}
use Rattle.flat_machine.specs.Asks.{asks}

abbrev pub turned : Turn → Turned Machine
turned t = record { next = t.next; written = t.written; left = t.left }

-- its turns are those of the flat machine, and none wants memory
abbrev pub flat_rules : Rules Machine
flat_rules = record {
  ending = λ m. m.ending;
  asks = asks;
  turn = λ input m. turned (turn input m);
  fed = λ m bytes. record m { memory = put_bytes m.memory (register m 11) bytes };
  may_lack = λ m. false;
}
