-- Steps of a running machine.
use Rattle.std.proofs.Common.{◌≡◌, ℕ, zero, suc, ◌+◌, ◌%◌, List, Bool, true, false, ◌&&◌, cond, refl, ap, arith}
use Rattle.std.proofs.Common.{append-nil}
use Rattle.std.specs.Prelude.{Some, None, option_map, ◌==◌}
use Rattle.std.proofs.lemmas.Bool.Decides.{nat_tests}
use Rattle.rv_isa.specs.declared.Instr.{Instr}
use Rattle.rv_isa.specs.Table.{decoded}
use Rattle.machine_spec.specs.declared.Ending.TheVariants.{Running}
use Rattle.machine_spec.specs.Memory.{Range, range_at, all_from}
use Rattle.machine_spec.proofs.AllFrom.{and_first}
use Rattle.machine_spec.specs.Widths.{number_of}
use Rattle.flat_spec.specs.Stores.{fetched, allows_fetch, bytes_from}
use Rattle.flat_spec.specs.Machine.{Machine}
use Rattle.flat_spec.specs.Calls.{quiet}
use Rattle.flat_spec.specs.Turns.{turn, executes}
use Rattle.flat_spec.specs.Runs.{State, step, steps}

-- the state of a machine with its input and output
abbrev pub state : Machine → List ℕ → List ℕ → State
state m input output = record { machine = m; input = input; output = output }

-- a running machine's turn is that of the fetched word's instruction
pub turn_is : (input : List ℕ) (m : Machine) (w : ℕ) (i : Instr) → m.ending ≡ Running → fetched m.memory m.pc ≡ Some w
    → decoded w ≡ Some i
    → turn input m ≡ executes input (Some i) m
unfolding turn
turn_is input m w i run e d = rw (run, e, d) refl

pub step_quiet : (input output : List ℕ) (m next : Machine) → turn input m ≡ quiet input next
    → step (state m input output) ≡ state next input output
unfolding step
step_quiet input output m next e = rw (e, append-nil output) refl

pub no_step : (s : State) → steps 0 s ≡ s
unfolding steps
no_step s = refl

-- what is fetched stands at a multiple of 4
pub fetched_aligned : (memory : List Range) (a w : ℕ) → fetched memory a ≡ Some w → a % 4 ≡ 0
unfolding fetched
fetched_aligned memory a w e = at ((a % 4 == 0) && all_from (λ k. allows_fetch (range_at memory k)) a 4) refl e
  where
    at : (v : Bool) → ((a % 4 == 0) && all_from (λ k. allows_fetch (range_at memory k)) a 4) ≡ v
        → cond v (option_map number_of (bytes_from memory a 4)) None ≡ Some w → a % 4 ≡ 0
    at true t e =
        let first : (a % 4 == 0) ≡ true = and_first (a % 4 == 0) (all_from (λ k. allows_fetch (range_at memory k)) a 4)
        t in
        grind (arith, nat_tests)
    at false t e = absurd (cc)
