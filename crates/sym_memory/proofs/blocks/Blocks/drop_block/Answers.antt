use Rattle.std.proofs.Common.{ap, ◌∙◌, arith}
use Rattle.std.specs.Prelude.{slice_set}
use Rattle.sym_memory.proofs.BlockLaws.{alive, is_living_one, dropped_kept, dropped_held}
use Rattle.sym_memory.proofs.blocks.Blocks.drop_block.Goals as goal

pub kill-requires : goal.kill-requires
kill-requires c =
    is_living_one c.self.inside.live c.self.inside.buffers.items c.args.block
    (alive c.self.inside.live c.self.inside.buffers.items c.args.self.now c.args.block c.self.invariant
    c.self.view_is c.requires)

pub index_mut-requires : goal.index_mut-requires
index_mut-requires c =
    let r = alive c.self.inside.live c.self.inside.buffers.items c.args.self.now c.args.block c.self.invariant
    c.self.view_is c.requires in
    let index = r.index in
    let ok = c.self.inside.buffers.ok.0 in
    omega (arith, index, ok)

pub invariant_of-self : goal.invariant_of-self
invariant_of-self c =
    dropped_kept c.self.inside.live c.kill.new.self c.self.inside.buffers.items _ c.args.block c.self.invariant
    (alive c.self.inside.live c.self.inside.buffers.items c.args.self.now c.args.block c.self.invariant
    c.self.view_is c.requires)
    c.kill.ensures (ap (slice_set c.self.inside.buffers.items c.args.block) c.release.ensures)

pub returns : goal.returns
returns c =
    dropped_held c.self.inside.live c.kill.new.self c.self.inside.buffers.items _ c.args.block c.args.self.now
    c.self.invariant
    (alive c.self.inside.live c.self.inside.buffers.items c.args.self.now c.args.block c.self.invariant
    c.self.view_is c.requires)
    c.kill.ensures (ap (slice_set c.self.inside.buffers.items c.args.block) c.release.ensures) c.self.view_is
