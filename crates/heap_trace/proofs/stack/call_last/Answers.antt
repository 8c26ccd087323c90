use Rattle.std.proofs.Common.{◌-◌, ap, sym, ◌∙◌}
use Rattle.heap_trace.proofs.Orders.{move_last, called_new}
use Rattle.heap_trace.proofs.Results.{of_ok}
use Rattle.heap_trace.proofs.stack.call_last.Goals as goal

pub returns-in-Some-clause-order : goal.returns-in-Some-clause-order
returns-in-Some-clause-order c = c.move_index.ensures.keys
    ∙ move_last c.args.addr c.args.order.now.keys c.in-Some.place _ (sym c.in-Some.ensures.index)
    (ap (λ n. n - 1) c.len.ensures.len)

pub returns-in-None-clause-order : goal.returns-in-None-clause-order
returns-in-None-clause-order c =
    of_ok c.insert.result _ (c.insert.ensures.succeeds c.requires) c.insert.ensures.keys
    ∙ called_new c.args.addr c.args.order.now.keys (sym c.in-None.ensures.index)
