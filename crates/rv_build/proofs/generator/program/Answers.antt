-- What is added part by part is the program.
use Rattle.rv_build.proofs.ProgramParts.{program_by_parts}
use Rattle.rv_build.proofs.generator.program.Goals as goal

pub returns : goal.returns
returns c =
    rw (c.in_ok-push_calls.ensures, c.in_ok-push_functions.ensures, c.in_ok-push_code-5.ensures)
    (rw (c.in_ok-push_code-4.ensures, c.in_ok-push_code-3.ensures, c.in_ok-push_code-2.ensures)
    (rw (c.in_ok-push_code.ensures, c.new-builder.ensures, c.building.ensures.is, c.adding.ensures.is)
    (rw (c.prepending.ensures.is, c.prepending-2.ensures.is, c.allocating.ensures.is) (program_by_parts c.args.n))))
