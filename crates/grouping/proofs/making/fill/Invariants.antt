use Rattle.std.proofs.Common.{◌≡◌, ℕ, List, ◌-◌, ◌≤◌, ◌++◌, [], ◌∷◌, length, vec_len}
use Rattle.grouping.specs.Greedy.{Grown}
use Rattle.grouping.specs.Growing.{IsCounted, Marks}
use Rattle.grouping.proofs.making.fill.Given as goal

abbrev pub invariant-loop-growth : goal.invariant-loop-growth
invariant-loop-growth g l = record {
  counted : IsCounted l.kept.edges.items l.growth;
  sizes : vec_len l.growth.cross ≡ length l.busy;
  members : (1 ≤ vec_len l.growth.members) × (vec_len l.growth.members ≤ 8);
  grown : (groups : List (List ℕ)) → Marks l.fn.busy (groups ++ l.fn.growth.members.items ∷ []) →
      Grown (λ cut answer. (goal.Fn-dyn g).post (l.policy.rule.vtable, l.policy.rule.value) (cut, tt) answer)
      l.tolerance (length l.fn.busy) l.kept.edges.items groups l.fn.growth.members.items →
      Marks l.busy (groups ++ l.growth.members.items ∷ [])
      × Grown (λ cut answer. (goal.Fn-dyn g).post (l.policy.rule.vtable, l.policy.rule.value) (cut, tt) answer)
      l.tolerance (length l.fn.busy) l.kept.edges.items groups l.growth.members.items;
}

abbrev pub decreases-loop-growth : goal.decreases-loop-growth
decreases-loop-growth g l = 8 - vec_len l.growth.members
