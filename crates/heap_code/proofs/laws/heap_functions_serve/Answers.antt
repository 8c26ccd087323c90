use Rattle.std.proofs.Common.{arith}
use Rattle.heap_code.proofs.Together.{room, fit, front, serves_heap}
use Rattle.heap_code.proofs.laws.heap_functions_serve.Goals as goal

pub returns : goal.returns
returns c = λ rows area text_at data_at s. serves_heap rows area text_at data_at (record {
  suits = s;
  setting = record {
    room = room rows area text_at data_at s;
    end = s.below_stack;
    groups = s.groups;
    few_rows = s.few_rows;
    low = c.the_first_hole_that_is_long_enough_is_taken.ensures area data_at (fit rows area text_at data_at s);
    finds = c.groups_are_found.ensures rows data_at s.masks s.groups (front rows area text_at data_at s);
    high = λ some. c.blocks_are_placed_in_chunks.ensures area data_at (room rows area text_at data_at s) some;
  };
  back = c.the_released_block_becomes_a_hole.ensures area data_at (fit rows area text_at data_at s);
  back_high = c.blocks_are_released_in_chunks.ensures area data_at (room rows area text_at data_at s);
  copies = c.granules_are_copied.ensures.copies;
  decodes = c.words_and_instructions_agree.ensures.decodes;
  keeps = c.a_run_changes_what_it_may.ensures.sizes;
  standing = c.words_of_a_range_stand_as_code.ensures;
  malloc = c.heap_functions_have_few_words.ensures.malloc rows area data_at
      s.groups s.few_rows (let l = s.log_chunk in omega (arith, l));
  calloc = c.heap_functions_have_few_words.ensures.calloc rows area data_at
      s.groups s.few_rows (let l = s.log_chunk in omega (arith, l));
  realloc = c.heap_functions_have_few_words.ensures.realloc rows area data_at
      s.groups s.few_rows (let l = s.log_chunk in omega (arith, l));
  free = c.heap_functions_have_few_words.ensures.free area data_at (let l = s.log_chunk in omega (arith, l));
  few = c.heap_functions_have_few_words.ensures.words rows area data_at s.few_rows;
})
