use Rattle.optimiser.proofs.Counting.{counted_once, few_grants}
use Rattle.optimiser.proofs.grants.every_grant_is_counted_once.Goals as goal

pub returns-clause-once : goal.returns-clause-once
returns-clause-once c = counted_once c.a_new_number_is_one_more.ensures

pub returns-clause-few : goal.returns-clause-few
returns-clause-few c = few_grants c.a_new_number_is_one_more.ensures
