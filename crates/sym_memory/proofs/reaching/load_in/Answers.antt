use Rattle.std.proofs.Common.{◌≡◌, ◌<◌, true, length, slice_get, slice_index_or, [], ap, sym, subst, ◌∙◌, arith}
use Rattle.std.specs.Prelude.{Some}
use Rattle.std.proofs.lemmas.Bool.{eqb-true}
use Rattle.sym_cells.specs.Cells.{cell_in}
use Rattle.sym_cells.specs.Moves.{load_at}
use Rattle.sym_memory.specs.Kept.{blocks_of, holds_access}
use Rattle.sym_memory.proofs.KeptLaws.{same_element, Reached, reached, load_done}
use Rattle.sym_memory.proofs.reaching.load_in.Goals as goal

pub bounds-buffers-block : goal.bounds-buffers-block
bounds-buffers-block c =
    (reached _ _ c.args.block c.args.offset c.size_of.result c.requires (sym c.can_reach.ensures
    ∙ c.if-can_reach.true)).index

pub load-requires : goal.load-requires
load-requires c =
    let r = reached _ _ c.args.block c.args.offset c.size_of.result c.requires (sym c.can_reach.ensures
    ∙ c.if-can_reach.true) in
    let same = ap length (c.index-buffers-block.is
    ∙ same_element c.args.buffers.now c.args.block c.index-buffers-block.result [] r.index) in
    let size = c.size_of.ensures.is in
    let high = r.high in
    (eqb-true _ 0 (sym c.is_aligned.ensures ∙ c.if-is_aligned.true), omega (arith, same, size, high))

pub returns-then-can_reach : goal.returns-then-can_reach
returns-then-can_reach c =
    let r = reached _ _ c.args.block c.args.offset c.size_of.result c.requires (sym c.can_reach.ensures
    ∙ c.if-can_reach.true) in
    let sized =
    subst (λ n.
    Reached c.args.live.now.blocks c.args.buffers.now c.args.block c.args.offset n) c.size_of.ensures.is r in
    ap (λ x. Some x) (c.load.ensures ∙ ap (λ x. load_at c.args.width c.args.offset (cell_in x))
    (c.index-buffers-block.is ∙ same_element c.args.buffers.now c.args.block c.index-buffers-block.result [] r.index))
    ∙ sym (load_done _ _ c.args.block c.args.offset c.args.width sized (sym c.is_aligned.ensures
    ∙ c.if-is_aligned.true))
