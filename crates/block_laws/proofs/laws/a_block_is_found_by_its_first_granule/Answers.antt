use Rattle.block_laws.proofs.Releasing.{all_found}
use Rattle.block_laws.proofs.laws.a_block_is_found_by_its_first_granule.Goals as goal

pub returns : goal.returns
returns c = all_found
