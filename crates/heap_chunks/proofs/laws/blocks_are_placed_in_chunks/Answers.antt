use Rattle.heap_chunks.proofs.Placing.{high_ends}
use Rattle.heap_chunks.proofs.laws.blocks_are_placed_in_chunks.Goals as goal

pub returns : goal.returns
returns c = high_ends
