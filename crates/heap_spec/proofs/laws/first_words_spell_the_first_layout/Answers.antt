use Rattle.heap_spec.proofs.Firsts.{first_spells, first_size}
use Rattle.heap_spec.proofs.laws.first_words_spell_the_first_layout.Goals as goal

pub returns-clause-spells : goal.returns-clause-spells
returns-clause-spells c = first_spells

pub returns-clause-size : goal.returns-clause-size
returns-clause-size c = first_size
