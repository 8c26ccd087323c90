-- Runs of the symbol machine: so many turns of an executable under a plan, on an input.
use Rattle.std.specs.Prelude.{ℕ, zero, suc, List, [], ◌++◌}
use Rattle.plan_core.specs.declared.types.Plan.{Plan}
use Rattle.sym_spec.specs.SymMachine.{SymMachine, start}
use Rattle.sym_spec.specs.SymCalls.{SymTurn}
use Rattle.sym_spec.specs.SymTurns.{turn}

-- the machine with the rest of its input and all that it wrote
pub record SymState : Type 0 where
  pub machine : SymMachine
  pub input : List ℕ
  pub output : List ℕ

abbrev pub after : SymTurn → List ℕ → SymState
after t output = record { machine = t.next; input = t.left; output = output ++ t.written }

unfoldable pub step : List ℕ → Plan → SymState → SymState
step file plan s = after (turn file plan s.input s.machine) s.output

unfoldable pub steps : List ℕ → Plan → ℕ → SymState → SymState
steps file plan zero s = s
steps file plan (suc n) s = step file plan (steps file plan n s)

-- the state after n turns from the start
unfoldable pub sym_run : List ℕ → Plan → List ℕ → ℕ → SymState
sym_run file plan input n = steps file plan n (record { machine = start file plan; input = input; output = [] })
