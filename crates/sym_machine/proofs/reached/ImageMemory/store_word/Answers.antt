use Rattle.std.proofs.Common.{sym, subst}
use Rattle.rv_isa.specs.declared.Width.TheVariants.{Word}
use Rattle.sym_value.specs.declared.Value.TheVariants.{Num}
use Rattle.sym_memory.specs.Held.{Held}
use Rattle.sym_memory.specs.Parts.{is_storable_in}
use Rattle.sym_machine.specs.Reached.{IsOfFile}
use Rattle.sym_machine.specs.Placing.{HasPlaces}
use Rattle.sym_machine.proofs.Lives.{store_keeps}
use Rattle.sym_machine.proofs.reached.ImageMemory.store_word.Goals as goal

pub invariant_of-self : goal.invariant_of-self
invariant_of-self c = (
  subst (λ (h : Held). IsOfFile c.self.inside.image.now h.parts h.end) (sym c.store_word.ensures.memory)
      c.self.invariant.0,
  subst (λ (h : Held). HasPlaces c.self.inside.image.now c.self.inside.plan.now c.self.inside.places h.memory
      c.self.inside.at.items) (sym c.store_word.ensures.memory)
      (store_keeps c.self.inside.image.now c.self.inside.plan.now c.self.inside.places c.self.inside.held.memory
      c.self.inside.at.items (is_storable_in c.self.inside.held.parts) Word (Num c.args.addr)
      (Num c.args.word)
      c.self.invariant.1),
)
