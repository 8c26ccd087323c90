-- Runs of the flat machine: so many turns of a file's bytes on an input.
use Rattle.std.specs.Prelude.{ℕ, zero, suc, List, [], ◌++◌}
use Rattle.flat_spec.specs.Machine.{Machine, start}
use Rattle.flat_spec.specs.Calls.{Turn}
use Rattle.flat_spec.specs.Turns.{turn}

-- the machine with the rest of its input and all that it wrote
pub record State : Type 0 where
  pub machine : Machine
  pub input : List ℕ
  pub output : List ℕ

abbrev pub after : Turn → List ℕ → State
after t output = record { machine = t.next; input = t.left; output = output ++ t.written }

unfoldable pub step : State → State
step s = after (turn s.input s.machine) s.output

unfoldable pub steps : ℕ → State → State
steps zero s = s
steps (suc n) s = step (steps n s)

-- the state after m turns from the start
unfoldable pub flat_run : List ℕ → List ℕ → ℕ → State
flat_run file input m = steps m (record { machine = start file; input = input; output = [] })
