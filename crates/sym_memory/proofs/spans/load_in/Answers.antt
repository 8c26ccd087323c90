use Rattle.std.proofs.Common.{◌-◌, ◌*◌, length, ap, sym, subst, ◌∙◌}
use Rattle.sym_cells.specs.Cells.{cell_in}
use Rattle.sym_cells.specs.Moves.{load_at}
use Rattle.cell_buffer.specs.Entries.{IsAccess}
use Rattle.sym_memory.specs.declared.spans.PlainSpan.{PlainSpan}
use Rattle.sym_memory.proofs.SpanLaws.{found, access_found, load_found, load_nowhere}
use Rattle.sym_memory.proofs.spans.load_in.Goals as goal

pub load-requires : goal.load-requires
load-requires c =
    subst (λ (s : PlainSpan). IsAccess c.args.width (c.args.addr - 4 * s.first) (4 * length s.cells))
    (sym c.index-spans-i.is)
    (access_found c.args.spans.now c.args.width c.args.addr c.in-Some.i c.index-spans-i.result c.requires
    (found c.args.spans.now c.args.addr c.in-Some.i c.index-spans-i.result (sym c.in-Some.ensures.first)))

pub returns-in-Some : goal.returns-in-Some
returns-in-Some c =
    c.load.ensures
    ∙ ap (λ (s : PlainSpan). load_at c.args.width (c.args.addr - 4 * s.first) (cell_in s.cells)) c.index-spans-i.is
    ∙ load_found c.args.spans.now c.args.width c.args.addr c.in-Some.i c.index-spans-i.result c.requires
    (found c.args.spans.now c.args.addr c.in-Some.i c.index-spans-i.result (sym c.in-Some.ensures.first))

pub returns-in-None : goal.returns-in-None
returns-in-None c = sym (load_nowhere c.args.spans.now c.args.width c.args.addr (sym c.in-None.ensures.first))
