use Rattle.plan_making.proofs.MadeFits.{fits}
use Rattle.plan_making.proofs.fitting.plans_of_near_sites_fit.Goals as goal

pub returns : goal.returns
returns c = fits
