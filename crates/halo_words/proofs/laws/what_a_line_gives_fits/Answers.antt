use Rattle.halo_words.proofs.Fits.{option_of_line_fits, operand_of_line_fits}
use Rattle.halo_words.proofs.laws.what_a_line_gives_fits.Goals as goal

pub returns-clause-options : goal.returns-clause-options
returns-clause-options c = λ words asked shape asks named. option_of_line_fits words asked shape asks named

pub returns-clause-operands : goal.returns-clause-operands
returns-clause-operands c = λ words asked shape asks named. operand_of_line_fits words asked shape asks named
