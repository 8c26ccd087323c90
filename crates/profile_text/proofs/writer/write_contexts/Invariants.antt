use Rattle.std.proofs.Common.{◌≡◌, ◌++◌, take}
use Rattle.profile_text.specs.Profile.{text_of, context_lines}
use Rattle.profile_text.proofs.writer.write_contexts.Given as goal

abbrev pub invariant-loop-at : goal.invariant-loop-at
invariant-loop-at l = l.out.items ≡ l.fn.out.items ++ text_of
    (context_lines 0 (take l.at l.contexts) (take l.at l.nodes))
