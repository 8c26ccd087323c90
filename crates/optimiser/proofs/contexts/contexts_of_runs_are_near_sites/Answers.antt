use Rattle.optimiser.proofs.NearContexts.{near_sites}
use Rattle.optimiser.proofs.contexts.contexts_of_runs_are_near_sites.Goals as goal

pub returns : goal.returns
returns c = near_sites
