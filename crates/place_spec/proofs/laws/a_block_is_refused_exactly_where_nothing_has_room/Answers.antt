use Rattle.plan_core.specs.Plan.{group_of_bits}
use Rattle.place_spec.proofs.Refusals.{refused_where, where_refused}
use Rattle.place_spec.proofs.laws.a_block_is_refused_exactly_where_nothing_has_room.Goals as goal

pub returns : goal.returns
returns c = λ rows area layout need bits.
    (refused_where area layout need (group_of_bits rows bits), where_refused area layout need (group_of_bits rows bits))
