-- There is a heap function where a name has an entry.
use Rattle.std.proofs.Common.{◌∙◌}
use Rattle.rewriter.proofs.HeapNames.{entry_given}
use Rattle.rewriter.proofs.entries.has_heap.Goals as goal

pub returns : goal.returns
returns c = c.has_some.ensures ∙ entry_given c.args.image.now
