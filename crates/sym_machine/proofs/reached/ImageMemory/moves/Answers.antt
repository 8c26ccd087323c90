use Rattle.std.proofs.Common.{◌≡◌, ◌∙◌, length, subst}
use Rattle.sym_machine.specs.Reached.{HeldMemory}
use Rattle.sym_machine.proofs.Placed.{has_room, no_room}
use Rattle.sym_machine.proofs.Done.{is_added, old_lives, new_lives, copied_on, moved_done, moved_ground, refused_move}
use Rattle.sym_machine.proofs.reached.ImageMemory.moves.Goals as goal

pub returns-then-not-fits-clause-done : goal.returns-then-not-fits-clause-done
returns-then-not-fits-clause-done c = λ m b.
    refused_move c.args.self.now c.args.block c.args.size c.need_of-need.result c.args.bits m b c.need_of-need.ensures
    (no_room _ _ _ _ _ c.self.invariant.1 _ _ _ _ c.self.view_is c.fits.ensures.fits c.if-not-fits.true)
    ∙ c.answered.ensures _

pub copies-requires-clause-from : goal.copies-requires-clause-from
copies-requires-clause-from c =
    old_lives c.args.self.now c.adds.new.self c.need_of-need.result c.args.bits c.in_ok-new.new
    (is_added c.args.self.now c.adds.new.self c.need_of-need.result c.args.bits c.in_ok-new.new
    (has_room _ _ _ _ _ c.self.invariant.1 _ _ _ _ c.self.view_is c.fits.ensures.fits c.if-not-fits.false)
    c.in_ok-new.ensures.placed c.in_ok-new.ensures.name)
    c.args.block c.requires.lives

pub copies-requires-clause-to : goal.copies-requires-clause-to
copies-requires-clause-to c =
    new_lives c.args.self.now c.adds.new.self c.need_of-need.result c.args.bits c.in_ok-new.new
    (is_added c.args.self.now c.adds.new.self c.need_of-need.result c.args.bits c.in_ok-new.new
    (has_room _ _ _ _ _ c.self.invariant.1 _ _ _ _ c.self.view_is c.fits.ensures.fits c.if-not-fits.false)
    c.in_ok-new.ensures.placed c.in_ok-new.ensures.name)

pub drops-requires : goal.drops-requires
drops-requires c =
    copied_on c.adds.new.self c.copies.new.self c.args.block c.in_ok-new.new c.args.block c.copies.ensures
    (old_lives c.args.self.now c.adds.new.self c.need_of-need.result c.args.bits c.in_ok-new.new
    (is_added c.args.self.now c.adds.new.self c.need_of-need.result c.args.bits c.in_ok-new.new
    (has_room _ _ _ _ _ c.self.invariant.1 _ _ _ _ c.self.view_is c.fits.ensures.fits c.if-not-fits.false)
    c.in_ok-new.ensures.placed c.in_ok-new.ensures.name)
    c.args.block c.requires.lives)

pub returns-clause-done : goal.returns-clause-done
returns-clause-done c = λ m b.
    moved_done c.args.self.now c.adds.new.self c.copies.new.self c.drops.new.self c.args.block c.args.size
    c.need_of-need.result c.args.bits c.in_ok-new.new m b c.need_of-need.ensures
    (is_added c.args.self.now c.adds.new.self c.need_of-need.result c.args.bits c.in_ok-new.new
    (has_room _ _ _ _ _ c.self.invariant.1 _ _ _ _ c.self.view_is c.fits.ensures.fits c.if-not-fits.false)
    c.in_ok-new.ensures.placed c.in_ok-new.ensures.name)
    c.copies.ensures c.drops.ensures (subst (λ (h : HeldMemory). length h.at ≡ length h.memory.blocks) c.self.view_is
    c.self.invariant.1.one_each) c.requires.lives

pub returns-clause-same : goal.returns-clause-same
returns-clause-same c =
    moved_ground c.args.self.now c.adds.new.self c.copies.new.self c.drops.new.self c.args.block c.need_of-need.result
    c.args.bits c.in_ok-new.new
    (is_added c.args.self.now c.adds.new.self c.need_of-need.result c.args.bits c.in_ok-new.new
    (has_room _ _ _ _ _ c.self.invariant.1 _ _ _ _ c.self.view_is c.fits.ensures.fits c.if-not-fits.false)
    c.in_ok-new.ensures.placed c.in_ok-new.ensures.name)
    c.copies.ensures c.drops.ensures
