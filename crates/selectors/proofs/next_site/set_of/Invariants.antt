use Rattle.std.proofs.Common.{◌≡◌}
use Rattle.selectors.specs.Sets.{holds_in, conflicts, Chosen}
use Rattle.selectors.proofs.Choices.{spare}
use Rattle.selectors.proofs.next_site.set_of.Given as goal

abbrev pub invariant-loop-chosen : goal.invariant-loop-chosen
invariant-loop-chosen l = record {
  rivals : l.rivals.items ≡ conflicts (holds_in l.sets) l.outside l.member l.chosen.items;
  chosen : Chosen (holds_in l.sets) l.outside l.member l.chosen.items;
}

abbrev pub decreases-loop-chosen : goal.decreases-loop-chosen
decreases-loop-chosen l = spare l.chosen.items l.own
