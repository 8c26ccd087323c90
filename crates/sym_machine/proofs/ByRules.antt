-- Steps and reads of the symbol machine, as those of any machine.
use Rattle.std.proofs.Common.{◌≡◌, ℕ, List, refl, ap, ◌∙◌}
use Rattle.plan_core.specs.declared.types.Plan.{Plan}
use Rattle.machine_spec.specs.declared.Ending.{Ending}
use Rattle.machine_spec.specs.declared.Ending.TheVariants as ending
use Rattle.sym_spec.specs.SymMachine.{SymMachine}
use Rattle.sym_spec.specs.SymCalls.{quiet}
use Rattle.sym_spec.specs.SymTurns.{turn_of, turn as machine_turn}
use Rattle.machine_run.specs.Machines.{Stays}
use Rattle.sym_machine.specs.Programs.{Program, turn, turned}
use Rattle.sym_machine.specs.Rules.{sym_rules}

-- an ended machine stays as it is
turn_stays : (e : Ending) (file : List ℕ) (plan : Plan) (input : List ℕ) (m : SymMachine)
    → (e ≡ ending.Running → ⊥) → turn_of file plan e input m ≡ quiet input m
turn_stays ending.Running file plan input m h = absurd (h refl)
turn_stays (ending.Exit status) file plan input m h = refl
turn_stays (ending.Illegal at) file plan input m h = refl
turn_stays (ending.Fault kind at) file plan input m h = refl

pub ended_stays : (e : Ending) (p : Program) → e ≡ p.machine.ending → (e ≡ ending.Running → ⊥) → Stays sym_rules p
unfolding turn machine_turn
ended_stays e p is ended =
    λ input. ap (turned p) (turn_stays p.machine.ending p.file p.plan input p.machine (λ r. ended (is ∙ r)))
