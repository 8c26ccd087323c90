use Rattle.block_laws.proofs.Regions.{moved_stands}
use Rattle.block_laws.proofs.laws.copied_bytes_stand_for_the_cells_of_a_moved_block.Goals as goal

pub returns : goal.returns
returns c = λ back at memory after from to need cells old copied zeros.
    moved_stands back at memory after from to need cells old copied zeros
