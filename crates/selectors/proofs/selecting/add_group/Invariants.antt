use Rattle.std.proofs.Common.{length}
use Rattle.selectors.specs.Sets.{holds_in}
use Rattle.selectors.specs.Rows.{Selects}
use Rattle.selectors.proofs.selecting.add_group.Given as goal

abbrev pub invariant-loop-member : goal.invariant-loop-member
invariant-loop-member l = Selects (holds_in l.sets) (length l.sets) l.groups l.k l.member-index l.making
