use Rattle.std.proofs.Common.{sym, subst}
use Rattle.frag_code.specs.Forms.{IsFormed}
use Rattle.heap_code.proofs.emitting.put_realloc.Goals as goal

pub put_entry-requires : goal.put_entry-requires
put_entry-requires c =
    subst IsFormed (sym c.in_ok-code.ensures)
    (c.heap_functions_have_few_words.ensures.realloc c.args.rows.now c.args.area
    c.args.data_at c.requires.groups c.requires.few c.requires.chunk)
