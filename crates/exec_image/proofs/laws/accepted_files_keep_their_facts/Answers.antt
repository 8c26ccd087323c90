-- The checks keep what they say.
use Rattle.exec_image.proofs.AcceptedFacts.{accepted_facts}
use Rattle.exec_image.proofs.laws.accepted_files_keep_their_facts.Goals as goal

pub returns : goal.returns
returns c = accepted_facts c.readable_files_keep_their_facts.ensures
    c.the_first_number_that_passes_is_found.ensures.none
