use Rattle.std.proofs.Common.{refl}
use Rattle.sym_value.proofs.operations.apply.Goals as goal

pub returns-in-Add : goal.returns-in-Add
returns-in-Add c = rw c.in-Add.is (c.sum.ensures c.args.live.now)

pub returns-in-And : goal.returns-in-And
returns-in-And c = rw c.in-And.is (c.and.ensures c.args.live.now)

pub returns-in-Sll : goal.returns-in-Sll
returns-in-Sll c = rw c.in-Sll.is (c.shift.ensures.left c.args.live.now refl)

pub returns-in-Srl : goal.returns-in-Srl
returns-in-Srl c = rw c.in-Srl.is (c.shift-in-Srl.ensures.right c.args.live.now refl)

pub returns-in-Sra : goal.returns-in-Sra
returns-in-Sra c = rw c.in-Sra.is (c.shift-in-Sra.ensures.signed c.args.live.now refl)
