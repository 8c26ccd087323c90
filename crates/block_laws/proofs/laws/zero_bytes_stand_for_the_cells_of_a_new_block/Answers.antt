use Rattle.block_laws.proofs.Regions.{new_stands}
use Rattle.block_laws.proofs.laws.zero_bytes_stand_for_the_cells_of_a_new_block.Goals as goal

pub returns : goal.returns
returns c = new_stands
