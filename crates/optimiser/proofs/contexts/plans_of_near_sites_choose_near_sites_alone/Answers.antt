use Rattle.optimiser.proofs.NearPlans.{near_alone}
use Rattle.optimiser.proofs.contexts.plans_of_near_sites_choose_near_sites_alone.Goals as goal

pub returns : goal.returns
returns c = near_alone
