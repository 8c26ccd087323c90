use Rattle.sym_memory.proofs.BlockLaws.{live_held}
use Rattle.sym_memory.proofs.blocks.Blocks.live.Goals as goal

pub returns : goal.returns
returns c = live_held c.self.inside.live c.self.inside.buffers.items c.args.self.now c.self.invariant c.self.view_is
