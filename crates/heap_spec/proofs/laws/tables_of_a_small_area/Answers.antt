use Rattle.std.proofs.Common.{refl}
use Rattle.heap_spec.specs.Tables.{first_words}
use Rattle.heap_spec.proofs.laws.tables_of_a_small_area.Goals as goal

pub returns-clause-words : goal.returns-clause-words
unfolding first_words
returns-clause-words c = refl
