use Rattle.new_file_laws.proofs.laws.the_laws_of_the_simulation_hold.Goals as goal

pub returns : goal.returns
returns c = record {
  operations = c.values_stand_for_their_words.ensures.operations;
  conditions = c.values_stand_for_their_words.ensures.conditions;
  loads = c.loads_and_stores_are_alike.ensures.loads;
  stores = c.loads_and_stores_are_alike.ensures.stores;
  writes = c.buffers_are_alike.ensures.writes;
  reads = c.buffers_are_alike.ensures.reads;
  stub_calls = c.stubs_call_and_come_back.ensures.calls;
  stub_returns = c.stubs_call_and_come_back.ensures.returns;
  upper = c.parts_of_a_distance_lead_there.ensures.upper;
  lower = c.parts_of_a_distance_lead_there.ensures.lower;
  there = c.parts_of_a_distance_lead_there.ensures.there;
  first_sound = c.layouts_stay_sound.ensures.first;
  placing = c.layouts_stay_sound.ensures.placing;
  releasing = c.layouts_stay_sound.ensures.releasing;
  moving = c.layouts_stay_sound.ensures.moving;
  beside = c.a_new_block_stands_apart_from_the_old_ones.ensures;
  without = λ area layout granule sound. c.a_release_takes_one_block_alone.ensures area layout granule;
  found = c.a_block_is_found_by_its_first_granule.ensures;
  tables = c.tables_depend_on_their_own_words_alone.ensures;
  longer_value = c.one_more_address_keeps_what_words_and_bytes_stand_for.ensures.value;
  longer_region = c.one_more_address_keeps_what_words_and_bytes_stand_for.ensures.region;
  same_region = c.a_store_keeps_every_region.ensures.same_bytes;
  new_region = c.zero_bytes_stand_for_the_cells_of_a_new_block.ensures;
  moved_region = c.copied_bytes_stand_for_the_cells_of_a_moved_block.ensures;
}
