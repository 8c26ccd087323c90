use Rattle.std.proofs.Common.{[]}
use Rattle.affinity.proofs.Standing.{nothing_pushed}
use Rattle.affinity.proofs.pushes.Affinity.new.Goals as goal

pub invariant_of-result : goal.invariant_of-result
invariant_of-result c = (
  [],
  rw (c.new.ensures.items, c.new-2.ensures, c.new-3.ensures, c.new-4.ensures.items, c.new-5.ensures.empty)
      (nothing_pushed c.args.distance c.requires),
)

pub returns-clause-pushed : goal.returns-clause-pushed
returns-clause-pushed c =
    rw (c.new.ensures.items, c.new-2.ensures, c.new-3.ensures, c.new-4.ensures.items, c.new-5.ensures.empty)
    (nothing_pushed c.args.distance c.requires)
