use Rattle.std.proofs.Common.{ap, sym, ◌∙◌, subst}
use Rattle.std.specs.Prelude.{slice_set}
use Rattle.sym_memory.specs.Held.{Held}
use Rattle.sym_machine.specs.Reached.{HeldMemory, IsOfFile}
use Rattle.sym_machine.specs.Placing.{with_placed}
use Rattle.sym_machine.proofs.Placed.{placed_with, added, added_keeps}
use Rattle.sym_machine.proofs.reached.ImageMemory.adds.Goals as goal

pub invariant_of-self-2 : goal.invariant_of-self-2
invariant_of-self-2 c = (
  subst (λ (h : Held). IsOfFile c.self.inside.image.now h.parts h.end) (sym c.in-Ok.ensures.granted) c.self.invariant.0,
  added_keeps c.self.inside.image.now c.self.inside.plan.now c.self.inside.places c.self.inside.held.memory
      c.self.inside.at.items c.self.invariant.1 _ _ _ c.args.need c.args.bits c.in-Some.addr c.in-Ok.block
      c.in-Some.ensures.layout c.in-Ok.ensures.name (ap (λ (h : Held). h.memory) c.in-Ok.ensures.granted)
      (ap (λ xs. slice_set xs c.in-Ok.block c.in-Some.addr) c.in_ok-push.ensures.items) c.in-Some.ensures.lives
      c.in-Some.ensures.apart c.in-Some.ensures.others,
)

pub returns-clause-placed : goal.returns-clause-placed
returns-clause-placed c = λ p e.
    added c.self.inside.image.now c.self.inside.plan.now c.self.inside.places c.self.inside.held.memory
    c.self.inside.at.items c.self.invariant.1 _ _ _ c.args.need c.args.bits c.in-Some.addr c.in-Ok.block p
    (ap (λ (h : HeldMemory). placed_with h c.args.need c.args.bits) c.self.view_is ∙ e) c.in-Some.ensures.layout
    c.in-Some.ensures.address c.in-Ok.ensures.name (ap (λ (h : Held). h.memory) c.in-Ok.ensures.granted)
    (ap (λ xs. slice_set xs c.in-Ok.block c.in-Some.addr) c.in_ok-push.ensures.items)
    ∙ ap (with_placed c.args.need p) c.self.view_is
