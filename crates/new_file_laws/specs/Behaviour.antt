-- What a new file keeps of its source.
use Rattle.std.specs.Prelude.{ℕ, List}
use Rattle.plan_core.specs.declared.types.Plan.{Plan}
use Rattle.match_spec.specs.Keeps.{Keeps}
use Rattle.match_spec.specs.Steps.{FollowsEachTurn}

pub record KeepsBehaviour (file : List ℕ) (plan : Plan) (new : List ℕ) : Type 0 where
  -- from the start on, its runs do the same
  pub keeps : Keeps file plan new
  -- from all states that match, each turn of the source is followed
  pub follows : FollowsEachTurn file plan new
