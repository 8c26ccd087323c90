use Rattle.heap_trace.proofs.Numbers.{kept_first}
use Rattle.heap_trace.proofs.contexts.Contexts.forget_from.Goals as goal

pub returns : goal.returns
returns c = rw (← c.self.view_is) (kept_first _ c.args.number _ _ c.truncate.ensures.keys)
