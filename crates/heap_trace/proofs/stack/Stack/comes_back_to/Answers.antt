use Rattle.heap_trace.proofs.Frames.{told_by_count, told_by_none}
use Rattle.heap_trace.proofs.stack.Stack.comes_back_to.Goals as goal

pub returns-in-Some : goal.returns-in-Some
returns-in-Some c = rw (← c.self.view_is)
    (told_by_count _ c.args.back _ _ c.in-Some.ensures.value (c.self.invariant.counts c.args.back))

pub returns-in-None : goal.returns-in-None
returns-in-None c = rw (← c.self.view_is)
    (told_by_none _ c.args.back _ c.in-None.ensures.value (c.self.invariant.counts c.args.back))
