-- A new file does what its source does, in the words of the two runs: for every input and bound n where
-- the source meets no address fault within n turns, the new file has written the same, has the same input
-- left and has ended alike after at least n and at most n * `turn_bound` turns.
use Rattle.std.specs.Prelude.{◌≡◌, ℕ, ◌*◌, ◌<◌, ◌≤◌, List, All}
use Rattle.plan_core.specs.declared.types.Plan.{Plan}
use Rattle.heap_spec.specs.Service.{turn_bound}
use Rattle.flat_spec.specs.Runs.{flat_run}
use Rattle.sym_spec.specs.SymRuns.{sym_run}
use Rattle.match_spec.specs.Keeps.{IsNoFault}

-- after so many turns the new file has written, has left of its input and has ended as its source after n
pub record HasDoneTheSame (file : List ℕ) (plan : Plan) (new input : List ℕ) (n : ℕ) : Type 0 where
  pub turns : ℕ
  pub least : n ≤ turns
  pub most : turns ≤ n * turn_bound plan.area
  pub output : (flat_run new input turns).output ≡ (sym_run file plan input n).output
  pub input_left : (flat_run new input turns).input ≡ (sym_run file plan input n).input
  pub ending : (flat_run new input turns).machine.ending ≡ (sym_run file plan input n).machine.ending

abbrev pub DoesTheSame : List ℕ → Plan → List ℕ → Type 0
DoesTheSame file plan new =
    (input : List ℕ) → All (λ b. b < 256) input → (n : ℕ) → IsNoFault (sym_run file plan input n).machine.ending
    → HasDoneTheSame file plan new input n
