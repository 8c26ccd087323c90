use Rattle.sym_memory.proofs.BlockLaws.{none_held}
use Rattle.sym_memory.proofs.blocks.Blocks.new.Goals as goal

pub returns : goal.returns
returns c =
    none_held c.new-live.result c.new-buffers.result.items c.args.end c.new-live.ensures c.new-buffers.ensures.items
