use Rattle.flat_mem.proofs.Keeping.{table_kept_number}
use Rattle.flat_mem.proofs.memory.FlatMem.store_number.Goals as goal

pub invariant_of-self : goal.invariant_of-self
invariant_of-self c =
    table_kept_number c.store_number.result _ _ c.args.width c.args.addr c.args.value _ c.store_number.ensures
    c.self.invariant
