use Rattle.heap_code.proofs.WordCounts.{malloc_formed, calloc_formed, realloc_formed, free_formed, few_words}
use Rattle.heap_code.proofs.laws.heap_functions_have_few_words.Goals as goal

pub returns : goal.returns
returns c =
    let fields = c.fields_are_tested_and_words_counted_by_parts.ensures.fields in
    let words = c.fields_are_tested_and_words_counted_by_parts.ensures.words in
    record {
      malloc = malloc_formed fields words;
      calloc = calloc_formed fields words;
      realloc = realloc_formed fields words;
      free = free_formed fields words;
      words = few_words fields words;
    }
