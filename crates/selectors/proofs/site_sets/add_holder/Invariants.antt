use Rattle.std.proofs.Common.{◌≡◌, ℕ, ◌+◌, ◌<◌, ◌≤◌, length, get_or, cond}
use Rattle.selectors.specs.Sets.{is_in}
use Rattle.selectors.proofs.site_sets.add_holder.Given as goal

abbrev pub invariant-loop-i : goal.invariant-loop-i
invariant-loop-i l = record {
  bound : l.place ≤ length l.set;
  below : (k j : ℕ) → k < l.place → l.i ≤ j → j < length l.sites → get_or l.set k 0 < get_or l.sites j 0;
  done : (j : ℕ) → j < l.i → get_or l.counts j 0 ≡ get_or l.fn.counts j 0 + cond (is_in l.set (get_or l.sites j 0)) 1 0;
  rest : (j : ℕ) → l.i ≤ j → get_or l.counts j 0 ≡ get_or l.fn.counts j 0;
}
