use Rattle.std.proofs.Common.{sym}
use Rattle.std.specs.Cmp.Lexicographic.{same_text, other_text}
use Rattle.heap_trace.proofs.Numbers.{numbered_by}
use Rattle.heap_trace.proofs.contexts.Contexts.number.Goals as goal

pub returns-clause-numbered : goal.returns-clause-numbered
returns-clause-numbered c = rw (← c.self.view_is) (numbered_by _ _
    (λ x y e. same_text x.items y.items (sym e)) (λ x y e. other_text x.items y.items (sym e)) c.args.context _ _ _
    c.in_ok-number.ensures.keys c.in_ok-number.ensures.index)
