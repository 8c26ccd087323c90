-- The jump to the stub of a chosen site is an instruction.
use Rattle.rewriter.proofs.ChosenSites.{formed_jump}
use Rattle.rewriter.proofs.patches.push_line.Goals as goal

pub push_jump-requires-clause-near : goal.push_jump-requires-clause-near
push_jump-requires-clause-near c =
    formed_jump c.args.image.now c.args.line c.args.number _ c.in-Some.site c.requires.facts c.requires.reach
    c.in-Some.ensures.exact c.stub_place.ensures.exact c.stub_place.ensures.aligned c.stub_place.ensures.low
