use Rattle.run_laws.proofs.Next.{next_begins}
use Rattle.run_laws.proofs.Owners.{Laws}
use Rattle.run_laws.proofs.chunks.the_next_block_in_a_chunk_begins_where_the_last_ends.Goals as goal

pub returns : goal.returns
returns c =
    let laws : Laws = record {
      serve = c.a_turn_does_what_its_note_says.ensures.heap;
      sound = c.layouts_stay_sound.ensures.reached;
      placing = c.layouts_stay_sound.ensures.placing;
      beside = c.a_new_block_stands_apart_from_the_old_ones.ensures;
      without = c.a_release_takes_one_block_alone.ensures;
    } in
    λ run i j block next k few chunk less first second none used.
    next_begins laws c.the_next_block_begins_where_the_last_ends.ensures run few k chunk i j block next less first
    second none used
