use Rattle.run_laws.specs.Grants.{machine_at}
use Rattle.tidy_runs.specs.Tidy.{stack_at}
use Rattle.tidy_runs.proofs.Contexts.{bits_on_context}
use Rattle.tidy_runs.proofs.Runs.{tidy_at}
use Rattle.tidy_runs.proofs.laws.bits_of_near_sites_are_those_on_the_context.Goals as goal

pub returns : goal.returns
returns c = λ run n fits tidy near.
    let between = tidy_at c.a_turn_does_what_its_note_says.ensures.bits run n
    (c.a_site_stands_at_its_address.ensures run.file) fits tidy in
    bits_on_context run.file run.plan.sites (stack_at run n) (machine_at run n).bits between.sites near between.bits_are
