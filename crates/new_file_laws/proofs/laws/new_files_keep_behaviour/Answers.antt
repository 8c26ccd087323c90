-- The memory is laid out as the simulation asks.
use Rattle.simulation.specs.Ground.{Ground}
use Rattle.new_file_laws.proofs.Ground.{ground, ground_with_heap}
use Rattle.new_file_laws.proofs.laws.new_files_keep_behaviour.Goals as goal

pub returns-clause-sites : goal.returns-clause-sites
returns-clause-sites c = λ file plan new facts bytes new_bytes free fits memory entry.
    let g : Ground file plan new =
    ground file plan new c.the_laws_of_the_simulation_hold.ensures facts bytes new_bytes free fits memory entry in
    record {
      keeps = c.a_new_file_on_its_ground_keeps_behaviour.ensures.keeps file plan new g;
      follows = c.a_new_file_on_its_ground_keeps_behaviour.ensures.follows file plan new g;
    }

pub returns-clause-heap : goal.returns-clause-heap
returns-clause-heap c = λ file plan new words at facts bytes new_bytes fits few reached serves memory entry.
    let g : Ground file plan new =
    ground_with_heap file plan new words at c.the_laws_of_the_simulation_hold.ensures
    c.first_words_spell_the_first_layout.ensures.spells c.first_words_spell_the_first_layout.ensures.size
    facts bytes new_bytes fits few reached serves memory entry in
    record {
      keeps = c.a_new_file_on_its_ground_keeps_behaviour.ensures.keeps file plan new g;
      follows = c.a_new_file_on_its_ground_keeps_behaviour.ensures.follows file plan new g;
    }
