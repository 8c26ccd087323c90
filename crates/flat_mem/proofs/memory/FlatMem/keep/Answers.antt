use Rattle.std.proofs.Common.{◌∙◌}
use Rattle.std.proofs.lemmas.List.{length-set}
use Rattle.std.proofs.lemmas.List.Elements.{All-set}
use Rattle.flat_mem.specs.Decoded.{IsKnown}
use Rattle.flat_mem.proofs.memory.FlatMem.keep.Goals as goal

pub invariant_of-self : goal.invariant_of-self
invariant_of-self c = record {
  long = length-set _ _ _ ∙ c.self.invariant.long;
  known = All-set (IsKnown c.self.inside.storage) _ _ _ (rw c.self.view_is c.requires) c.self.invariant.known;
}
