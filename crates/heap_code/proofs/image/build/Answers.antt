use Rattle.std.proofs.Common.{◌≡◌, ◌+◌, length, ap, sym, ◌∙◌, subst}
use Rattle.heap_spec.specs.Service.{ServesHeap}
use Rattle.heap_code.specs.Words.{malloc_words, calloc_words, realloc_words, all_words}
use Rattle.heap_code.proofs.Inside.{entries_from, entries_are}
use Rattle.heap_spec.specs.Tables.{first_words}
use Rattle.heap_code.proofs.Lists.{length-bytes}
use Rattle.heap_code.proofs.image.build.Goals as goal

pub returns-clause-size : goal.returns-clause-size
returns-clause-size c =
    ap length (c.from-2.ensures ∙ c.in_ok-tables.ensures) ∙ length-bytes (first_words c.args.plan.now.area)
    ∙ c.first_words_spell_the_first_layout.ensures.size c.args.plan.now.area

pub returns-clause-serves : goal.returns-clause-serves
returns-clause-serves c =
    let rows = c.args.plan.now.rows in
    let area = c.args.plan.now.area in
    let data_at = c.args.data_at in
    let e = c.in_ok-emitted.emitted in
    let same = c.as_slice-rows.ensures in
    let is : c.from.result ≡ all_words rows area data_at =
    c.from.ensures ∙ (c.in_ok-emitted.ensures.words ∙ ap (λ rs. all_words rs area data_at) same) in
    let places = entries_are rows area c.args.text_at data_at e.calloc e.realloc e.free
    (c.in_ok-emitted.ensures.calloc ∙ ap (λ rs. length (malloc_words rs area data_at)) same)
    (c.in_ok-emitted.ensures.realloc
    ∙ ap (λ rs. length (malloc_words rs area data_at) + length (calloc_words rs area data_at)) same)
    (c.in_ok-emitted.ensures.free ∙ ap (λ rs. length (malloc_words rs area data_at)
    + length (calloc_words rs area data_at) + length (realloc_words rs area data_at)) same) in
    subst (λ words. ServesHeap rows area c.args.text_at data_at words
    (entries_from (c.args.text_at + 1536) e.calloc e.realloc e.free)) (sym is)
    (subst (ServesHeap rows area c.args.text_at data_at (all_words rows area data_at)) (sym places)
    (c.heap_functions_serve.ensures rows area c.args.text_at data_at c.requires))
