use Rattle.std.proofs.Common.{◌≡◌, length}
use Rattle.grouping.specs.Greedy.{Begun}
use Rattle.grouping.specs.Growing.{Marks}
use Rattle.grouping.proofs.making.make.Given as goal

abbrev pub invariant-loop : goal.invariant-loop
invariant-loop g l = record {
  count : length l.groups ≡ l.counter;
  marks : Marks l.busy l.groups;
  begun : Begun (λ cut answer. (goal.Fn-dyn g).post (l.policy.rule.vtable, l.policy.rule.value) (cut, tt) answer)
      l.tolerance (length l.fn.busy) l.kept.edges.items l.groups;
}
