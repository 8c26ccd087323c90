use Rattle.std.proofs.Common.{sym, subst}
use Rattle.frag_code.specs.Forms.{IsFormed}
use Rattle.heap_code.proofs.emitting.put_free.Goals as goal

pub put_function-requires : goal.put_function-requires
put_function-requires c =
    subst IsFormed (sym c.in_ok-code.ensures)
    (c.heap_functions_have_few_words.ensures.free c.args.area c.args.data_at c.requires.chunk)
