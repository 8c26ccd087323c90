use Rattle.std.proofs.Common.{◌∙◌}
use Rattle.cell_buffer.proofs.EntryLaws.{word_done}
use Rattle.cell_buffer.proofs.stores.store_word.Goals as goal

pub returns-in-Part-clause-cells : goal.returns-in-Part-clause-cells
returns-in-Part-clause-cells c =
    rw c.in-Part.is (c.blank.ensures.cells ∙ word_done _ _ _ _ _ _ c.requires.aligned c.requires.inside)

pub returns-in-Unset-clause-cells : goal.returns-in-Unset-clause-cells
returns-in-Unset-clause-cells c =
    rw c.in-Unset.is (c.blank-in-Unset.ensures.cells ∙ word_done _ _ _ _ _ _ c.requires.aligned c.requires.inside)
