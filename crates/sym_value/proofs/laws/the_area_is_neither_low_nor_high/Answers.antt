use Rattle.sym_value.proofs.PointerFacts.{inside_is_not_outer}
use Rattle.sym_value.proofs.laws.the_area_is_neither_low_nor_high.Goals as goal

pub returns : goal.returns
returns c = inside_is_not_outer
