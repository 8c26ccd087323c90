use Rattle.std.proofs.Common.{arith}
use Rattle.heap_trace.proofs.RunTexts.{is_profile}
use Rattle.heap_trace.proofs.recording.Recording.into_profile.Goals as goal

pub returns-clause-profile : goal.returns-clause-profile
returns-clause-profile c = λ legal.
    is_profile _ c.args.self.affinity c.args.self.trace legal.0 4294967295 legal.1 legal.2 (omega arith) c.requires
    c.in_ok-contexts.ensures.exact c.in_ok-contexts.ensures.contexts (c.in_ok-graph.ensures.exact legal.0 legal.1)
    c.in_ok-graph.ensures.counts
