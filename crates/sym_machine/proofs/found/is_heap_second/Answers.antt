-- The names stand for the entries that are given.
use Rattle.std.proofs.Common.{◌∙◌}
use Rattle.sym_machine.proofs.HeapWords.{second_words}
use Rattle.sym_machine.proofs.found.is_heap_second.Goals as goal

pub returns : goal.returns
returns c = c.is_behind_one.ensures ∙ second_words c.args.image.now c.args.addr
