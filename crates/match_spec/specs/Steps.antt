-- One turn of the source is followed by turns of the new file, from all states that match.
use Rattle.std.specs.Prelude.{◌≡◌, ℕ, ◌+◌, ◌<◌, ◌≤◌, List, All, Option, Some, None, count_by, length}
use Rattle.plan_core.specs.declared.types.Plan.{Plan}
use Rattle.heap_spec.specs.Service.{turn_bound}
use Rattle.flat_spec.specs.Runs.{State, steps}
use Rattle.sym_spec.specs.SymMachine.{SymMachine}
use Rattle.sym_spec.specs.SymNotes.{note}
use Rattle.sym_spec.specs.SymRuns.{SymState, step}
use Rattle.match_spec.specs.Matches.{Matches}
use Rattle.match_spec.specs.Keeps.{IsNoFault}

-- how many blocks live
abbrev pub living : SymMachine → ℕ
living m = count_by (λ k. k.lives) m.memory.blocks

abbrev pub one_if : Option ℕ → ℕ
one_if (Some name) = 1
one_if None = 0

-- at least one and at most `turn_bound` turns of the flat machine lead to a state that matches the one
-- after the turn of the symbol machine. A grant in it makes the list of addresses one longer, and a release
-- the living blocks one fewer.
pub record IsFollowed (file : List ℕ) (plan : Plan) (new : List ℕ) (s : SymState) (f : State) : Type 0 where
  pub turns : ℕ
  pub some : 1 ≤ turns
  pub few : turns ≤ turn_bound plan.area
  pub state : Matches file plan new (step file plan s) (steps turns f)
  pub addresses : length (step file plan s).machine.at
      ≡ length s.machine.at + one_if (note file plan s.machine).grant
  pub blocks : living (step file plan s).machine + one_if (note file plan s.machine).release
      ≡ living s.machine + one_if (note file plan s.machine).grant

abbrev pub FollowsEachTurn : List ℕ → Plan → List ℕ → Type 0
FollowsEachTurn file plan new =
    (s : SymState) (f : State) → All (λ b. b < 256) s.input → Matches file plan new s f
    → IsNoFault (step file plan s).machine.ending → IsFollowed file plan new s f
