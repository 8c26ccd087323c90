use Rattle.std.proofs.Common.{◌∙◌}
use Rattle.std.proofs.lemmas.List.{length-set}
use Rattle.std.proofs.lemmas.List.Elements.{All-set}
use Rattle.sym_machine.specs.Found.{IsKept}
use Rattle.sym_machine.proofs.code.Code.at.Goals as goal

pub invariant_of-self : goal.invariant_of-self
invariant_of-self c = record {
  size = length-set _ _ _ ∙ c.self.invariant.size;
  each = All-set (IsKept c.self.inside.image.now c.self.inside.plan.now) _ _ _ c.look_up-kept.ensures.kept
      c.self.invariant.each;
  returns_are = c.self.invariant.returns_are;
  bits = c.self.invariant.bits;
}
