use Rattle.heap_chunks.proofs.Releasing.{high_ends}
use Rattle.heap_chunks.proofs.laws.blocks_are_released_in_chunks.Goals as goal

pub returns : goal.returns
returns c = high_ends
