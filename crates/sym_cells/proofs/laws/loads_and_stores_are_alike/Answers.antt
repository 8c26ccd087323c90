use Rattle.sym_cells.proofs.MemoryLaws.{loads_alike, stores_alike}
use Rattle.sym_cells.proofs.laws.loads_and_stores_are_alike.Goals as goal

pub returns : goal.returns
returns c = record { loads = loads_alike; stores = stores_alike }
