use Rattle.sym_cells.proofs.CopyLaw.{copied_inside, copied_across}
use Rattle.sym_cells.proofs.laws.a_copy_byte_by_byte_is_whole.Goals as goal

pub returns : goal.returns
returns c = record { inside = copied_inside; across = copied_across }
