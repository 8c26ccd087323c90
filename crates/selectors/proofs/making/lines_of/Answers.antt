use Rattle.std.proofs.Common.{sym}
use Rattle.selectors.proofs.Masks.{numbered_more}
use Rattle.selectors.proofs.making.lines_of.Goals as goal

pub loop-i-preserved : goal.loop-i-preserved
loop-i-preserved c = rw (c.in_ok-push.ensures.items, c.loop-i.invariant)
    (sym (numbered_more c.args.sites.now c.loop-i.i c.loop-i-test.true))
