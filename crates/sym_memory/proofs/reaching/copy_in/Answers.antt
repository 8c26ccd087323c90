use Rattle.std.proofs.Common.{◌≡◌, ◌<◌, ◌≤◌, length, slice_set, slice_index_or, [], ap, ap₂, sym, ◌∙◌, arith}
use Rattle.sym_cells.specs.Memory.{overlaid}
use Rattle.sym_memory.proofs.BlockLaws.{low_of, high_of, set_high, set_low}
use Rattle.sym_memory.proofs.reaching.copy_in.Goals as goal

pub returns-then-from-to : goal.returns-then-from-to
returns-then-from-to c =
    let inside = c.requires.to in
    let e = c.split_at_mut-low.ensures.front in
    let f = c.split_at_mut-low.ensures.back in
    set_high c.args.buffers.now _ _ c.args.to c.overlay.new.self e f (omega (arith, inside))
    ∙ ap (slice_set c.args.buffers.now c.args.to) (c.overlay.ensures.cells
    ∙ ap₂ overlaid (sym c.index-low-from.is) (sym c.index-high-0.is) ∙ ap₂ overlaid
    (low_of c.args.buffers.now _ c.args.from c.args.to _ [] e c.if-from-to.true
    (omega (arith, inside)) c.index-low-from.is)
    (high_of c.args.buffers.now _ c.args.to _ [] f inside c.index-high-0.is))

pub returns-else-from-to : goal.returns-else-from-to
returns-else-from-to c =
    let inside = c.requires.from in
    let differ = c.requires.differ in
    let less : c.args.to < c.args.from = omega (arith, differ, c.if-from-to.false) in
    let e = c.split_at_mut-low-else-from-to.ensures.front in
    let f = c.split_at_mut-low-else-from-to.ensures.back in
    set_low c.args.buffers.now _ _ c.args.to c.args.from c.overlay-else-from-to.new.self e f less
    (omega (arith, inside))
    ∙ ap (slice_set c.args.buffers.now c.args.to) (c.overlay-else-from-to.ensures.cells
    ∙ ap₂ overlaid (sym c.index-high-0-else-from-to.is) (sym c.index-low-to.is) ∙ ap₂ overlaid
    (high_of c.args.buffers.now _ c.args.from _ [] f inside c.index-high-0-else-from-to.is)
    (low_of c.args.buffers.now _ c.args.to c.args.from _ [] e less (omega (arith, inside)) c.index-low-to.is))
