use Rattle.std.proofs.Common.{◌∙◌}
use Rattle.heap_trace.proofs.RunTexts.{context_told}
use Rattle.heap_trace.proofs.stack.Stack.context.Goals as goal

pub returns-clause-context : goal.returns-clause-context
returns-clause-context c =
    context_told (λ v. v.items) c.from_slice.result c.self.inside.frames.items _ c.self.invariant.words
    (c.as_slice.ensures.keys ∙ c.self.invariant.order_is) c.from_slice.ensures.items
