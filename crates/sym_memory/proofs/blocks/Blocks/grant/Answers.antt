use Rattle.std.proofs.Common.{sym, ◌∙◌, arith}
use Rattle.sym_memory.proofs.BlockLaws.{names_held, granted_kept, granted_held}
use Rattle.sym_memory.proofs.blocks.Blocks.grant.Goals as goal

pub add-requires-clause-name : goal.add-requires-clause-name
add-requires-clause-name c =
    let names =
    names_held c.self.inside.live c.self.inside.buffers.items c.args.self.now c.self.invariant c.self.view_is in
    let few = c.requires.name in
    omega (arith, names, few)

pub invariant_of-self-in-Ok : goal.invariant_of-self-in-Ok
invariant_of-self-in-Ok c =
    granted_kept c.self.inside.live c.add.new.self c.self.inside.buffers.items c.push.new.self.items
    c.in_ok-buffer.buffer
    c.args.need c.self.invariant c.in-Ok.ensures.added c.in_ok-push.ensures.items c.in_ok-buffer.ensures

pub returns-in-Ok-clause-name : goal.returns-in-Ok-clause-name
returns-in-Ok-clause-name c =
    c.in-Ok.ensures.name
    ∙ names_held c.self.inside.live c.self.inside.buffers.items c.args.self.now c.self.invariant c.self.view_is

pub returns-in-Ok-clause-granted : goal.returns-in-Ok-clause-granted
returns-in-Ok-clause-granted c =
    granted_held c.self.inside.live c.add.new.self c.self.inside.buffers.items c.push.new.self.items
    c.in_ok-buffer.buffer
    c.args.need c.args.self.now c.self.invariant c.in-Ok.ensures.added c.in_ok-push.ensures.items c.in_ok-buffer.ensures
    c.self.view_is
