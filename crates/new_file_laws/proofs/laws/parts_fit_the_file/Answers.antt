use Rattle.new_file_laws.proofs.PartsFit.{parts_fit, parts_fit_with_heap}
use Rattle.new_file_laws.proofs.laws.parts_fit_the_file.Goals as goal

pub returns-clause-sites : goal.returns-clause-sites
returns-clause-sites c = parts_fit

pub returns-clause-heap : goal.returns-clause-heap
returns-clause-heap c = λ file plan words at.
    parts_fit_with_heap file plan words at c.first_words_spell_the_first_layout.ensures.size
