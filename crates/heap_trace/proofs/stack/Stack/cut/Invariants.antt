use Rattle.std.proofs.Common.{◌≡◌, true, length}
use Rattle.std.specs.List.{list_any}
use Rattle.sym_spec.specs.Contexts.{comes_back_to, cut}
use Rattle.heap_trace.proofs.stack.Stack.cut.Given as goal

-- a site comes back there, and so far nothing was cut that isn't cut at all
abbrev pub invariant-loop-site : goal.invariant-loop-site
invariant-loop-site l = record {
  there : list_any (comes_back_to l.back) l.self ≡ true;
  same : cut l.back l.self ≡ cut l.back l.fn.self;
}

abbrev pub decreases-loop-site : goal.decreases-loop-site
decreases-loop-site l = length l.self
