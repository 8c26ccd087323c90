-- A new file keeps the behaviour of its source: for every input and bound n where the source meets no
-- address fault within n turns, the new file's state after at least n and at most n * `turn_bound`
-- turns matches.
use Rattle.std.specs.Prelude.{ℕ, ◌*◌, ◌<◌, ◌≤◌, List, All}
use Rattle.plan_core.specs.declared.types.Plan.{Plan}
use Rattle.heap_spec.specs.Service.{turn_bound}
use Rattle.machine_spec.specs.declared.Ending.{Ending}
use Rattle.machine_spec.specs.declared.Ending.TheVariants.{Running, Exit, Illegal, Fault}
use Rattle.flat_spec.specs.Runs.{flat_run}
use Rattle.sym_spec.specs.SymRuns.{sym_run}
use Rattle.match_spec.specs.Matches.{Matches}

abbrev pub IsNoFault : Ending → Type 0
IsNoFault Running = Unit {0}
IsNoFault (Exit status) = Unit {0}
IsNoFault (Illegal at) = Unit {0}
IsNoFault (Fault kind at) = ⊥

-- so many flat turns lead to a state that matches
pub record Reaches (file : List ℕ) (plan : Plan) (new input : List ℕ) (n : ℕ) : Type 0 where
  pub turns : ℕ
  pub least : n ≤ turns
  pub most : turns ≤ n * turn_bound plan.area
  pub state : Matches file plan new (sym_run file plan input n) (flat_run new input turns)

abbrev pub Keeps : List ℕ → Plan → List ℕ → Type 0
Keeps file plan new =
    (input : List ℕ) → All (λ b. b < 256) input → (n : ℕ) → IsNoFault (sym_run file plan input n).machine.ending
    → Reaches file plan new input n
