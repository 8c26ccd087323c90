use Rattle.new_file_laws.proofs.Suiting.{suits}
use Rattle.new_file_laws.proofs.laws.fitting_plans_suit_the_heap.Goals as goal

pub returns : goal.returns
returns c = suits
