use Rattle.tidy_runs.proofs.Runs.{tidy_at}
use Rattle.tidy_runs.proofs.laws.bits_of_a_tidy_run_are_the_chosen_sites_in_the_stack.Goals as goal

pub returns : goal.returns
returns c = λ run n fits tidy. (tidy_at c.a_turn_does_what_its_note_says.ensures.bits run n
    (c.a_site_stands_at_its_address.ensures run.file) fits tidy).bits_are
