-- One of the entries has the name.
use Rattle.exec_image.proofs.HeapWords.{some_named}
use Rattle.exec_image.proofs.heap.entry_in.Goals as goal

pub returns : goal.returns
returns c = absurd (some_named c.args.file.now c.args.heap.now c.args.name c.loop-entry.entry-index c.requires
    c.loop-entry-test.false c.loop-entry.invariant)
