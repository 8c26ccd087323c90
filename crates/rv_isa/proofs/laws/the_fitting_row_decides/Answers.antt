use Rattle.rv_isa.proofs.SharedWords.{decoded-fits, decoded-none}
use Rattle.rv_isa.proofs.laws.the_fitting_row_decides.Goals as goal

pub returns : goal.returns
returns c = record { fits = decoded-fits; none = decoded-none }
