use Rattle.std.proofs.Common.{◌≡◌, ◌++◌, length, map}
use Rattle.std.specs.Prelude.{reverse}
use Rattle.heap_trace.proofs.contexts.Contexts.into_list.Given as goal

-- the contexts left, and those taken from the end
abbrev pub invariant-loop-context : goal.invariant-loop-context
invariant-loop-context l = map (λ v. v.items) l.table.keys ++ reverse l.contexts.items ≡ l.fn.self

abbrev pub decreases-loop-context : goal.decreases-loop-context
decreases-loop-context l = length l.table.keys
