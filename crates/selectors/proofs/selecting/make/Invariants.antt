use Rattle.std.proofs.Common.{length}
use Rattle.selectors.specs.Sets.{holds_in}
use Rattle.selectors.specs.Rows.{Selects}
use Rattle.selectors.proofs.selecting.make.Given as goal

abbrev pub invariant-loop-k : goal.invariant-loop-k
invariant-loop-k l = Selects (holds_in l.sets) (length l.sets) l.groups l.k 0 l.making
