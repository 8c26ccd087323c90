use Rattle.flat_mem.proofs.Keeping.{table_kept_byte}
use Rattle.flat_mem.proofs.memory.FlatMem.set.Goals as goal

pub invariant_of-self : goal.invariant_of-self
invariant_of-self c =
    table_kept_byte c.set.result _ _ c.args.addr c.args.byte _ c.set.ensures.answer c.set.ensures.memory
    c.self.invariant
