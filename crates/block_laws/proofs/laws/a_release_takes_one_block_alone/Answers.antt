use Rattle.block_laws.proofs.Releasing.{stands_without}
use Rattle.block_laws.proofs.laws.a_release_takes_one_block_alone.Goals as goal

pub returns : goal.returns
returns c = stands_without
