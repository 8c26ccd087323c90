use Rattle.std.proofs.Common.{ap, sym, ◌∙◌, slice_set}
use Rattle.sym_memory.specs.Parts.{spans_of}
use Rattle.sym_memory.proofs.SpanLaws.{found, access_found, store_nowhere}
use Rattle.sym_memory.proofs.spans.store_in.Goals as goal

pub store-requires : goal.store-requires
store-requires c =
    access_found c.args.spans.now c.args.width c.args.addr c.in-Some.i c.index-spans-i.result c.requires
    (found c.args.spans.now c.args.addr c.in-Some.i c.index-spans-i.result (sym c.in-Some.ensures.first))

pub returns-in-Some : goal.returns-in-Some
returns-in-Some c =
    ap (λ x. spans_of (slice_set c.args.spans.now c.in-Some.i x)) c.store.ensures
    ∙ (found c.args.spans.now c.args.addr c.in-Some.i c.index-spans-i.result (sym c.in-Some.ensures.first)).stored
    c.args.width c.args.value

pub returns-in-None : goal.returns-in-None
returns-in-None c = store_nowhere c.args.spans.now c.args.width c.args.addr c.args.value (sym c.in-None.ensures.first)
