use Rattle.run_laws.proofs.Bits.{turn_sets}
use Rattle.run_laws.proofs.HeapTurns.{turn_serves}
use Rattle.run_laws.proofs.turns.a_turn_does_what_its_note_says.Goals as goal

pub returns : goal.returns
returns c = record {
  heap = turn_serves c.a_store_into_a_list_is_the_store.ensures.as_many;
  bits = λ file plan input m fits.
      turn_sets file plan fits.sites m c.a_store_into_a_list_is_the_store.ensures.as_many input;
}
