use Rattle.std.proofs.Common.{◌-◌, ◌*◌, ◌<◌, length, ap, sym, subst, ◌∙◌}
use Rattle.sym_cells.specs.Cells.{cell_in, mark_at}
use Rattle.sym_cells.specs.Memory.{number_in}
use Rattle.sym_memory.specs.declared.spans.PlainSpan.{PlainSpan}
use Rattle.sym_memory.proofs.SpanLaws.{found, mark_found, mark_nowhere}
use Rattle.sym_memory.proofs.spans.known_in.Goals as goal

pub known-requires : goal.known-requires
known-requires c =
    subst (λ (s : PlainSpan). c.args.addr - 4 * s.first < 4 * length s.cells) (sym c.index-spans-i.is)
    (found c.args.spans.now c.args.addr c.in-Some.i c.index-spans-i.result (sym c.in-Some.ensures.first)).high

pub returns-in-Some : goal.returns-in-Some
returns-in-Some c =
    c.known.ensures ∙ ap number_in
    (ap (λ (s : PlainSpan). mark_at (cell_in s.cells) (c.args.addr - 4 * s.first)) c.index-spans-i.is
    ∙ mark_found c.args.spans.now c.args.addr c.in-Some.i c.index-spans-i.result
    (found c.args.spans.now c.args.addr c.in-Some.i c.index-spans-i.result (sym c.in-Some.ensures.first)))

pub returns-in-None : goal.returns-in-None
returns-in-None c = sym (ap number_in (mark_nowhere c.args.spans.now c.args.addr (sym c.in-None.ensures.first)))
