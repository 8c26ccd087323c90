-- Turns of the flat machine after one another.
use Rattle.std.proofs.Common.{◌≡◌, ℕ, zero, suc, ◌+◌, List, refl, ap, arith, append-nil}
use Rattle.std.specs.Prelude.{Some}
use Rattle.rv_isa.specs.Table.{decoded}
use Rattle.machine_spec.specs.declared.Ending.TheVariants.{Running}
use Rattle.flat_spec.specs.Stores.{fetched}
use Rattle.flat_spec.specs.Machine.{Machine}
use Rattle.flat_spec.specs.Calls.{quiet}
use Rattle.flat_spec.specs.Turns.{executes, turn}
use Rattle.flat_spec.specs.Runs.{State, after, step, steps}

-- j more turns
pub more_steps : (i j : ℕ) (s : State) → steps (i + j) s ≡ steps i (steps j s)
unfolding steps
more_steps zero j s = let e : 0 + j ≡ j = omega arith in rw e refl
more_steps (suc i) j s = let e : suc i + j ≡ suc (i + j) = omega arith in rw e (ap step (more_steps i j s))

pub one_step : (s : State) → steps 1 s ≡ step s
unfolding steps
one_step s = refl

pub one_turn : (s : State) → steps 1 s ≡ after (turn s.input s.machine) s.output
unfolding steps step
one_turn s = refl

-- a running machine's turn is that of the fetched word
pub fetched_turn : (input : List ℕ) (m : Machine) (w : ℕ) → m.ending ≡ Running → fetched m.memory m.pc ≡ Some w
    → turn input m ≡ executes input (decoded w) m
unfolding turn
fetched_turn input m w run e = rw (run, e) refl

-- a turn that reads and writes nothing
pub quiet_step : (s : State) (next : Machine) → turn s.input s.machine ≡ quiet s.input next
    → step s ≡ record { machine = next; input = s.input; output = s.output }
unfolding step
quiet_step s next e = rw (e, append-nil s.output) refl
