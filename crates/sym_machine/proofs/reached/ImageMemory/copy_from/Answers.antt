use Rattle.std.proofs.Common.{◌≡◌, ◌+◌, ◌<◌, [], arith}
use Rattle.std.specs.Prelude.{Some, slice_index, unwrap_or}
use Rattle.sym_cells.specs.Buffers.{taken}
use Rattle.sym_machine.specs.Reached.{number_at}
use Rattle.sym_machine.proofs.Filling.{byte_there}
use Rattle.sym_machine.proofs.reached.ImageMemory.copy_from.Goals as goal

pub unreachable-requires : goal.unreachable-requires
unreachable-requires c =
    let l : c.args.from + c.loop-i.i < c.args.len = omega (arith, c.requires.inside, c.loop-i-test.true) in
    let e : number_at c.args.self.now.memory c.args.at (c.args.from + c.loop-i.i)
    ≡ Some (slice_index (unwrap_or (taken c.args.self.now.memory c.args.len c.args.at) []) (c.args.from + c.loop-i.i)) =
    byte_there c.args.self.now.memory c.args.at c.args.len (c.args.from + c.loop-i.i) c.requires.known l in
    cc
