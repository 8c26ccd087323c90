use Rattle.std.proofs.Common.{arith, ap, List, ◌++◌, ◌∷◌, [], ◌∙◌}
use Rattle.heap_trace.specs.declared.stack.Frame.{Frame}
use Rattle.heap_trace.proofs.Frames.{pushed_stack}
use Rattle.heap_trace.proofs.stack.Stack.push.Goals as goal

pub invariant_of-self-2 : goal.invariant_of-self-2
invariant_of-self-2 c =
    let f : Frame = record { site = c.args.site; place = c.call-place.result } in
    pushed_stack _ _ f c.self.inside.order.keys _ _ _ c.self.invariant
    (c.push_reserved.ensures.items ∙ ap (λ (fs : List Frame). fs ++ f ∷ []) c.reserve.ensures.items)
    (omega arith)
    (rw c.reserve-2.ensures.keys at c.call-place.ensures.place)
    (rw c.reserve-2.ensures.keys at c.call-place.ensures.order)
    c.in_ok-raise.ensures.counts
