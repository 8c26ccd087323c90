use Rattle.std.proofs.Common.{length, ap, arith}
use Rattle.heap_code.specs.Words.{malloc_words, calloc_words, realloc_words}
use Rattle.heap_code.proofs.Inside.{lengths}
use Rattle.heap_code.proofs.Lists.{length_behind}
use Rattle.heap_code.proofs.image.emit_all.Goals as goal

pub overflow_cast-calloc : goal.overflow_cast-calloc
overflow_cast-calloc c =
    let few = c.heap_functions_have_few_words.ensures.words c.args.rows.now c.args.area c.args.data_at c.requires.few in
    let all = lengths c.args.rows.now c.args.area c.args.data_at in
    let none = ap length c.new-words.ensures.items in
    let first = length_behind c.new-words.result.items c.put_malloc.new.words.items
    (malloc_words c.args.rows.now c.args.area c.args.data_at) c.in_ok-put_malloc.ensures in
    let is = c.len-calloc.ensures in omega (arith, few, all, none, first, is)

pub overflow_cast-realloc : goal.overflow_cast-realloc
overflow_cast-realloc c =
    let few = c.heap_functions_have_few_words.ensures.words c.args.rows.now c.args.area c.args.data_at c.requires.few in
    let all = lengths c.args.rows.now c.args.area c.args.data_at in
    let none = ap length c.new-words.ensures.items in
    let first = length_behind c.new-words.result.items c.put_malloc.new.words.items
    (malloc_words c.args.rows.now c.args.area c.args.data_at) c.in_ok-put_malloc.ensures in
    let second = length_behind c.put_malloc.new.words.items c.put_calloc.new.words.items
    (calloc_words c.args.rows.now c.args.area c.args.data_at) c.in_ok-put_calloc.ensures in
    let is = c.len-realloc.ensures in omega (arith, few, all, none, first, second, is)

pub overflow_cast-free : goal.overflow_cast-free
overflow_cast-free c =
    let few = c.heap_functions_have_few_words.ensures.words c.args.rows.now c.args.area c.args.data_at c.requires.few in
    let all = lengths c.args.rows.now c.args.area c.args.data_at in
    let none = ap length c.new-words.ensures.items in
    let first = length_behind c.new-words.result.items c.put_malloc.new.words.items
    (malloc_words c.args.rows.now c.args.area c.args.data_at) c.in_ok-put_malloc.ensures in
    let second = length_behind c.put_malloc.new.words.items c.put_calloc.new.words.items
    (calloc_words c.args.rows.now c.args.area c.args.data_at) c.in_ok-put_calloc.ensures in
    let third = length_behind c.put_calloc.new.words.items c.put_realloc.new.words.items
    (realloc_words c.args.rows.now c.args.area c.args.data_at) c.in_ok-put_realloc.ensures in
    let is = c.len-free.ensures in omega (arith, few, all, none, first, second, third, is)
