use Rattle.flat_machine.proofs.Slots.{slot_read}
use Rattle.flat_machine.proofs.registers.Registers.read.Goals as goal

pub returns : goal.returns
returns c = rw (← c.self.view_is) (slot_read c.self.inside.slots c.args.r c.self.invariant c.requires)
