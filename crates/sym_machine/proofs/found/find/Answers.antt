use Rattle.std.proofs.Common.{sym, ◌∙◌}
use Rattle.sym_machine.proofs.Finding.{found_heap}
use Rattle.sym_machine.proofs.found.find.Goals as goal

pub returns-in-Some-function_at-clause-found : goal.returns-in-Some-function_at-clause-found
returns-in-Some-function_at-clause-found c =
    sym (found_heap c.args.image.now c.args.plan.now c.args.addr c.in-Some.word c.in-Some-function_at.name
    (sym c.is_second.ensures ∙ c.if-is_second.false) (sym c.requires.word ∙ c.in-Some.is)
    (sym c.function_at.ensures ∙ c.in-Some-function_at.is))
