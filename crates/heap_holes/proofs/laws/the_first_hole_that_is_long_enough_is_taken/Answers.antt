use Rattle.heap_holes.proofs.FirstFit.{first_fit_places}
use Rattle.heap_holes.proofs.laws.the_first_hole_that_is_long_enough_is_taken.Goals as goal

pub returns : goal.returns
returns c = first_fit_places
