use Rattle.flat_mem.proofs.Keeping.{table_kept}
use Rattle.flat_mem.proofs.memory.FlatMem.put.Goals as goal

pub invariant_of-self : goal.invariant_of-self
invariant_of-self c =
    rw c.put.ensures (table_kept _ _ c.args.bytes.now _ (rw c.self.view_is c.requires) c.self.invariant)
