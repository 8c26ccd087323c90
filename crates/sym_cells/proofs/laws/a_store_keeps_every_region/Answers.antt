use Rattle.sym_cells.proofs.StoreLaw.{store_holds, store_apart, region_still}
use Rattle.sym_cells.proofs.laws.a_store_keeps_every_region.Goals as goal

pub returns : goal.returns
returns c = record { here = store_holds; apart = store_apart; same_bytes = region_still }
