-- The entries stand for the addresses that are given.
use Rattle.std.proofs.Common.{◌∙◌}
use Rattle.exec_image.proofs.HeapWords.{heap_word}
use Rattle.exec_image.proofs.sites.is_heap_word.Goals as goal

pub returns : goal.returns
returns c = c.is_word_of_one.ensures ∙ heap_word c.args.file.now c.args.heap.now c.args.addr c.requires
