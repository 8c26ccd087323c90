use Rattle.std.proofs.Common.{length, [], ap, sym, ◌∙◌, arith}
use Rattle.sym_cells.specs.Cells.{cell_in, mark_at}
use Rattle.sym_cells.specs.Memory.{number_in}
use Rattle.sym_memory.proofs.KeptLaws.{same_element, reached, known_done}
use Rattle.sym_memory.proofs.reaching.known_in.Goals as goal

pub bounds-buffers-block : goal.bounds-buffers-block
bounds-buffers-block c = (reached _ _ c.args.block c.args.offset 1 c.requires (sym c.can_reach.ensures
    ∙ c.if-can_reach.true)).index

pub known-requires : goal.known-requires
known-requires c =
    let r = reached _ _ c.args.block c.args.offset 1 c.requires (sym c.can_reach.ensures ∙ c.if-can_reach.true) in
    let same = ap length (c.index-buffers-block.is
    ∙ same_element c.args.buffers.now c.args.block c.index-buffers-block.result [] r.index) in
    let high = r.high in
    omega (arith, same, high)

pub returns-then-can_reach : goal.returns-then-can_reach
returns-then-can_reach c =
    let r = reached _ _ c.args.block c.args.offset 1 c.requires (sym c.can_reach.ensures ∙ c.if-can_reach.true) in
    c.known.ensures ∙ ap (λ x. number_in (mark_at (cell_in x) c.args.offset))
    (c.index-buffers-block.is ∙ same_element c.args.buffers.now c.args.block c.index-buffers-block.result [] r.index)
    ∙ sym (known_done _ _ c.args.block c.args.offset r)
