use Rattle.std.proofs.Common.{◌∙◌, arith}
use Rattle.sym_machine.proofs.Outcomes.{grants_big}
use Rattle.sym_machine.proofs.Placed.{has_room, no_room}
use Rattle.sym_machine.proofs.Done.{is_added, same_ground, granted_done, refused}
use Rattle.sym_machine.proofs.reached.ImageMemory.grants.Goals as goal

pub returns-then-size-clause-done : goal.returns-then-size-clause-done
returns-then-size-clause-done c = λ m b.
    grants_big c.args.self.now.file c.args.self.now.plan c.args.size _ (omega arith) ∙ c.answered.ensures _

pub returns-then-not-fits-clause-done : goal.returns-then-not-fits-clause-done
returns-then-not-fits-clause-done c = λ m b.
    refused c.args.self.now c.args.size c.need_of-need.result c.args.bits m b (omega arith) c.need_of-need.ensures
    (no_room _ _ _ _ _ c.self.invariant.1 _ _ _ _ c.self.view_is c.fits.ensures.fits c.if-not-fits.true)
    ∙ c.answered-then-not-fits.ensures _

pub returns-clause-done : goal.returns-clause-done
returns-clause-done c = λ m b.
    granted_done c.args.self.now c.adds.new.self c.args.size c.need_of-need.result c.args.bits c.in_ok-block.block m b
    (omega arith) c.need_of-need.ensures
    (is_added c.args.self.now c.adds.new.self c.need_of-need.result c.args.bits c.in_ok-block.block
    (has_room _ _ _ _ _ c.self.invariant.1 _ _ _ _ c.self.view_is c.fits.ensures.fits c.if-not-fits.false)
    c.in_ok-block.ensures.placed c.in_ok-block.ensures.name)

pub returns-clause-same : goal.returns-clause-same
returns-clause-same c =
    same_ground c.args.self.now c.adds.new.self c.need_of-need.result c.args.bits c.in_ok-block.block
    (is_added c.args.self.now c.adds.new.self c.need_of-need.result c.args.bits c.in_ok-block.block
    (has_room _ _ _ _ _ c.self.invariant.1 _ _ _ _ c.self.view_is c.fits.ensures.fits c.if-not-fits.false)
    c.in_ok-block.ensures.placed c.in_ok-block.ensures.name)
