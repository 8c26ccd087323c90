use Rattle.selectors.specs.Rows.Selects.{start}
use Rattle.selectors.proofs.selecting.make.Goals as goal

pub loop-k-init : goal.loop-k-init
loop-k-init c = rw c.new-making.ensures start
