use Rattle.std.proofs.Common.{refl}
use Rattle.rv_isa.specs.Table.{table}
use Rattle.rv_isa.proofs.SharedWords.{table-shares_none}
use Rattle.rv_isa.proofs.laws.no_word_fits_two_rows.Goals as goal

pub returns : goal.returns
unfolding table
returns c = record { rows = refl; apart = table-shares_none }
