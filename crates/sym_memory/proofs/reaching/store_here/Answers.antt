use Rattle.std.proofs.Common.{◌≡◌, length, slice_set, slice_index_or, [], ap, sym, ◌∙◌, arith}
use Rattle.std.proofs.lemmas.Bool.{eqb-true}
use Rattle.machine_spec.specs.Widths.{size_of}
use Rattle.sym_cells.specs.Moves.{store}
use Rattle.sym_memory.specs.Kept.{blocks_of}
use Rattle.sym_memory.proofs.KeptLaws.{same_element, reached, store_done, store_answers, written_kept}
use Rattle.sym_memory.proofs.reaching.store_here.Goals as goal

pub bounds-buffers-at : goal.bounds-buffers-at
bounds-buffers-at c = (reached _ _ c.args.at.block c.args.at.offset
    (size_of c.args.width) c.requires.kept c.requires.reached).index

pub store-requires : goal.store-requires
store-requires c =
    let r = reached _ _ c.args.at.block c.args.at.offset (size_of c.args.width) c.requires.kept c.requires.reached in
    let same = ap length (same_element c.args.buffers.now c.args.at.block c.index-buffers-at.result [] r.index) in
    let high = r.high in
    (eqb-true _ 0 c.requires.aligned, omega (arith, same, high))

pub returns-clause-kept : goal.returns-clause-kept
returns-clause-kept c =
    let r = reached _ _ c.args.at.block c.args.at.offset (size_of c.args.width) c.requires.kept c.requires.reached in
    written_kept _ _ c.args.at.block c.store.new.self c.requires.kept
    (c.store.ensures.long ∙ ap length
    (same_element c.args.buffers.now c.args.at.block c.index-buffers-at.result [] r.index))

pub returns-clause-blocks : goal.returns-clause-blocks
returns-clause-blocks c =
    let r = reached _ _ c.args.at.block c.args.at.offset (size_of c.args.width) c.requires.kept c.requires.reached in
    ap (λ x. blocks_of c.args.live.now.blocks (slice_set c.args.buffers.now c.args.at.block x))
    (c.store.ensures.cells ∙ ap (store c.args.width c.args.at.offset c.args.value)
    (same_element c.args.buffers.now c.args.at.block c.index-buffers-at.result [] r.index))
    ∙ store_done _ _ c.args.at.block c.args.at.offset c.args.width c.args.value c.requires.kept r c.requires.aligned

pub returns-clause-answer : goal.returns-clause-answer
returns-clause-answer c =
    let r = reached _ _ c.args.at.block c.args.at.offset (size_of c.args.width) c.requires.kept c.requires.reached in
    store_answers _ _ c.args.at.block c.args.at.offset c.args.width c.args.value r c.requires.aligned
