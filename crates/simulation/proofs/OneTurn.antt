-- From states that match, a turn of the source is followed by turns of the new file.
use Rattle.std.proofs.Common.{◌≡◌, ℕ, List, refl, ap, sym, ◌∙◌, subst}
use Rattle.plan_core.specs.declared.types.Plan.{Plan}
use Rattle.flat_spec.specs.Runs as flat
use Rattle.flat_spec.specs.Runs.{State}
use Rattle.sym_spec.specs.SymNotes.{note}
use Rattle.sym_spec.specs.SymTurns.{turn}
use Rattle.sym_spec.specs.SymRuns.{step}
use Rattle.match_spec.specs.Matches.{Matches}
use Rattle.match_spec.specs.Steps.{FollowsEachTurn}
use Rattle.simulation.specs.Ground.{Ground}
use Rattle.simulation.proofs.Counting.{NoteCounts, turn_counts}
use Rattle.simulation.proofs.Following.{Follows}
use Rattle.simulation.proofs.Turning.{turn_follows}
use Rattle.site_stubs.specs.StubRuns.{state_of}

pub each_turn : (file : List ℕ) (plan : Plan) (new : List ℕ) → Ground file plan new → FollowsEachTurn file plan new
unfolding step
each_turn file plan new g s f bytes h safe =
    let t : Follows file plan new (turn file plan s.input s.machine) f.machine s.input s.output =
    turn_follows file plan new s.machine f.machine s.input s.output g bytes h.machines safe in
    let counts : NoteCounts s.machine (turn file plan s.input s.machine).next (note file plan s.machine) =
    turn_counts file plan s.input s.machine safe in
    let from : flat.steps t.turns f ≡ flat.steps t.turns (state_of f.machine s.input s.output) =
    ap (λ i. flat.steps t.turns (state_of f.machine i f.output)) h.input
    ∙ ap (λ o. flat.steps t.turns (state_of f.machine s.input o)) h.output in
    record {
      turns = t.turns;
      some = t.some;
      few = t.few;
      state = subst (λ x. Matches file plan new (step file plan s) x) (sym (from ∙ t.is))
          (record { machines = t.next; input = refl; output = refl });
      addresses = counts.addresses;
      blocks = counts.blocks;
    }
