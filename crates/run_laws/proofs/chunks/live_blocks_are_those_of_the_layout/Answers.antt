use Rattle.run_laws.proofs.Owners.{Laws, named_blocks, placed_blocks}
use Rattle.run_laws.proofs.Requests.{reached}
use Rattle.run_laws.proofs.chunks.live_blocks_are_those_of_the_layout.Goals as goal

pub returns : goal.returns
returns c =
    let laws : Laws = record {
      serve = c.a_turn_does_what_its_note_says.ensures.heap;
      sound = c.layouts_stay_sound.ensures.reached;
      placing = c.layouts_stay_sound.ensures.placing;
      beside = c.a_new_block_stands_apart_from_the_old_ones.ensures;
      without = c.a_release_takes_one_block_alone.ensures;
    } in
    record {
      reached = λ run n. reached laws.serve run n;
      placed = λ run n turn block few before granted lives.
          placed_blocks laws run few n turn block before granted lives;
      named = λ run n few. named_blocks laws run few n;
    }
