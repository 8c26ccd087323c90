-- The symbol machine with what it runs: the file and the plan, which no turn changes.
use Rattle.std.specs.Prelude.{ℕ, List, IsSome, map}
use Rattle.plan_core.specs.declared.types.Plan.{Plan}
use Rattle.machine_spec.specs.Start.{start_registers}
use Rattle.machine_spec.specs.declared.Ending.TheVariants.{Running}
use Rattle.machine_run.specs.Machines.{Turned}
use Rattle.place_spec.specs.Layout.{Layout}
use Rattle.sym_value.specs.declared.Value.TheVariants.{Num}
use Rattle.sym_cells.specs.Memory.{Memory}
use Rattle.sym_spec.specs.SymMachine.{SymMachine}
use Rattle.sym_spec.specs.SymCalls.{SymTurn}
use Rattle.sym_spec.specs.SymTurns.{turn as machine_turn}
use Rattle.sym_spec.specs.SymNotes.{note}

pub record Program : Type 0 where
  pub file : List ℕ
  pub plan : Plan
  pub machine : SymMachine

abbrev pub turned : Program → SymTurn → Turned Program
turned p t = record { next = record p { machine = t.next }; written = t.written; left = t.left }

-- one turn of its machine
unfoldable pub turn : List ℕ → Program → Turned Program
turn input p = turned p (machine_turn p.file p.plan input p.machine)

-- its next turn grants a block
abbrev pub GrantsNext : Program → Type 0
GrantsNext p = IsSome (note p.file p.plan p.machine).grant

-- a program that is about to run, with this memory, layout and addresses of blocks, and this first address
abbrev pub begun : List ℕ → Plan → Memory → Layout → (at : List ℕ) → (entry : ℕ) → Program
begun file plan memory layout at entry = record {
  file = file;
  plan = plan;
  machine = record {
    memory = memory;
    layout = layout;
    at = at;
    registers = map (λ w. Num w) start_registers;
    pc = entry;
    bits = 0;
    ending = Running;
  };
}
