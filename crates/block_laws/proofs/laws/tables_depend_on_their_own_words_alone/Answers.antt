use Rattle.block_laws.proofs.Tables.{spells_same}
use Rattle.block_laws.proofs.laws.tables_depend_on_their_own_words_alone.Goals as goal

pub returns : goal.returns
returns c = spells_same
