use Rattle.std.proofs.Common.{◌≡◌, ap, sym, ◌∙◌, subst, true}
use Rattle.std.specs.Prelude.{slice_index}
use Rattle.place_model.specs.Heap.{heap_without}
use Rattle.sym_memory.specs.Held.{Held}
use Rattle.sym_machine.specs.Reached.{HeldMemory, IsOfFile}
use Rattle.sym_machine.specs.Placing.{block_lives, without}
use Rattle.sym_machine.proofs.Placed.{address_of_block, lost, lost_keeps}
use Rattle.sym_machine.proofs.reached.ImageMemory.drops.Goals as goal

pub invariant_of-self : goal.invariant_of-self
invariant_of-self c =
    let lives : block_lives c.self.inside.held.memory c.args.block ≡ true =
    ap (λ (h : HeldMemory). block_lives h.memory c.args.block) c.self.view_is ∙ c.requires in
    let address : c.index.result.now ≡ slice_index c.self.inside.at.items c.args.block =
    address_of_block c.self.inside.image.now c.self.inside.plan.now c.self.inside.places c.self.inside.held.memory
    c.self.inside.at.items c.self.invariant.1
    c.args.block c.index.result.now lives c.index.ensures in (
      subst (λ (h : Held). IsOfFile c.self.inside.image.now h.parts h.end) (sym c.drop_block.ensures)
          c.self.invariant.0,
      lost_keeps c.self.inside.image.now c.self.inside.plan.now c.self.inside.places c.self.inside.held.memory
          c.self.inside.at.items c.self.invariant.1 _ _ c.args.block lives
          (c.release.ensures.layout ∙ ap (heap_without c.self.inside.places) address)
          (ap (λ (h : Held). h.memory) c.drop_block.ensures)
          (λ a n l. c.release.ensures.others a (λ e. n (e ∙ address)) l),
    )

pub returns : goal.returns
returns c =
    let lives : block_lives c.self.inside.held.memory c.args.block ≡ true =
    ap (λ (h : HeldMemory). block_lives h.memory c.args.block) c.self.view_is ∙ c.requires in
    let address : c.index.result.now ≡ slice_index c.self.inside.at.items c.args.block =
    address_of_block c.self.inside.image.now c.self.inside.plan.now c.self.inside.places c.self.inside.held.memory
    c.self.inside.at.items c.self.invariant.1
    c.args.block c.index.result.now lives c.index.ensures in
    lost c.self.inside.image.now c.self.inside.plan.now c.self.inside.places c.self.inside.held.memory
    c.self.inside.at.items c.self.invariant.1
    _ _ c.args.block (c.release.ensures.layout ∙ ap (heap_without c.self.inside.places) address)
    (ap (λ (h : Held). h.memory) c.drop_block.ensures) ∙ ap (without c.args.block) c.self.view_is
