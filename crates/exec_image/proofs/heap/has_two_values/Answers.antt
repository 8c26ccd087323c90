-- A symbol differs from the first where two differ.
use Rattle.std.proofs.Common.{◌∙◌, sym}
use Rattle.exec_image.proofs.HeapSymbols.{two_values}
use Rattle.exec_image.proofs.heap.has_two_values.Goals as goal

pub returns-in-Some : goal.returns-in-Some
returns-in-Some c =
    c.has_other.ensures ∙ rw c.requires.symbols
    (two_values c.args.file.now c.args.name c.in-Some.value (sym c.in-Some.is ∙ c.requires.entry))
