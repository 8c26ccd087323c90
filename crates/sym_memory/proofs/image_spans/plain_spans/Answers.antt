use Rattle.sym_memory.proofs.StartLaws.{spans_pushed}
use Rattle.sym_memory.proofs.image_spans.plain_spans.Goals as goal

pub returns : goal.returns
returns c =
    spans_pushed c.in_ok-spans.spans.items c.push.new.self.items c.in_ok-stack.stack _ _ c.in_ok-push.ensures.items
    c.in_ok-spans.ensures c.in_ok-stack.ensures
