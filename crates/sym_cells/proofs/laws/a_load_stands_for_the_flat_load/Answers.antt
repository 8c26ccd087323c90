use Rattle.sym_cells.proofs.LoadLaw.{load_holds}
use Rattle.sym_cells.proofs.laws.a_load_stands_for_the_flat_load.Goals as goal

pub returns : goal.returns
returns c = load_holds
