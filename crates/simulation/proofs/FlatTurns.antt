-- Turns of a running flat machine.
use Rattle.std.proofs.Common.{◌≡◌, ℕ, List, refl, append-nil}
use Rattle.std.specs.Prelude.{Option, Some}
use Rattle.rv_isa.specs.declared.Instr.{Instr}
use Rattle.rv_isa.specs.Table.{decoded}
use Rattle.machine_spec.specs.declared.Ending.TheVariants.{Running}
use Rattle.flat_spec.specs.Stores.{fetched}
use Rattle.flat_spec.specs.Machine.{Machine}
use Rattle.flat_spec.specs.Calls.{quiet}
use Rattle.flat_spec.specs.Turns.{turn, executes}
use Rattle.flat_spec.specs.Runs.{step}
use Rattle.site_stubs.specs.StubRuns.{state_of}

-- a running machine's turn is that of the fetched word's instruction
pub turn_is : (input : List ℕ) (m : Machine) (w : ℕ) (o : Option Instr) → m.ending ≡ Running
    → fetched m.memory m.pc ≡ Some w → decoded w ≡ o
    → turn input m ≡ executes input o m
unfolding turn
turn_is input m w o run e d = rw (run, e, d) refl

-- a turn that writes no byte leads to the next machine with input and output as they were
pub step_quiet : (input output : List ℕ) (m next : Machine) → turn input m ≡ quiet input next
    → step (state_of m input output) ≡ state_of next input output
unfolding step
step_quiet input output m next e = rw (e, append-nil output) refl
