use Rattle.run_laws.proofs.Owners.{Laws, lives_granted, once, stays}
use Rattle.run_laws.proofs.chunks.a_block_is_granted_once_and_stays.Goals as goal

pub returns : goal.returns
returns c =
    let laws : Laws = record {
      serve = c.a_turn_does_what_its_note_says.ensures.heap;
      sound = c.layouts_stay_sound.ensures.reached;
      placing = c.layouts_stay_sound.ensures.placing;
      beside = c.a_new_block_stands_apart_from_the_old_ones.ensures;
      without = c.a_release_takes_one_block_alone.ensures;
    } in
    record {
      once = λ run i j block few first second. once laws run few i j block first second;
      stays = λ run i n block few granted before. stays laws run few i n block granted before;
      granted = λ run n block few lives. lives_granted laws run few n block lives;
    }
