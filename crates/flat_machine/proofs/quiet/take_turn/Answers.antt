use Rattle.flat_machine.proofs.QuietTurns.{turn_acts}
use Rattle.flat_machine.proofs.quiet.take_turn.Goals as goal

pub returns : goal.returns
returns c =
    turn_acts _ c.in_ok-i.i _ _ _ _ _ c.args.pc c.in_ok-i.ensures.memory c.in_ok-i.ensures.is c.act.ensures
