-- The groups are few and apart, as those who select the rows want them.
use Rattle.plan_making.proofs.Apart.{few_begun, apart_begun}
use Rattle.plan_making.proofs.making.make_plan.Goals as goal

pub select-requires-clause-few_groups : goal.select-requires-clause-few_groups
select-requires-clause-few_groups g c = few_begun _ _ _ _ _ c.in_ok-groups.ensures.greedy.0

pub select-requires-clause-apart : goal.select-requires-clause-apart
select-requires-clause-apart g c = apart_begun _ _ _ _ _ c.in_ok-groups.ensures.greedy.0
