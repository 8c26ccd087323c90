use Rattle.machine_run.proofs.Feeding.{err_cut, whole_done}
use Rattle.machine_run.proofs.serving.read_from.Goals as goal

pub returns-in_err-feed_from-clause-cut : goal.returns-in_err-feed_from-clause-cut
returns-in_err-feed_from-clause-cut g c = err_cut _ _ _ _ _ _ _ c.in_err-feed_from.ensures.part

pub returns-clause-done : goal.returns-clause-done
returns-clause-done g c = λ m left at is told.
    whole_done _ _ m left _ _ _ at (c.in_ok-feed_from.ensures.whole m left is told) c.end_read.ensures.goes
    c.end_read.ensures.turn
