-- The words are a stub's, so they call and go back.
use Rattle.std.proofs.Common.{rules, sym, subst}
use Rattle.site_stubs.specs.StubRuns.{Calls, Returns}
use Rattle.site_stubs.proofs.StubLaw.{calls, returns}
use Rattle.site_stubs.proofs.stub.Goals as goal

pub returns-clause-words : goal.returns-clause-words
returns-clause-words c = search rules

pub returns-clause-calls : goal.returns-clause-calls
returns-clause-calls c =
    subst (Calls c.args.at c.args.bit c.args.target) (sym (returns-clause-words c))
    (calls c.args.at c.args.bit c.args.target c.args.back c.ranges.at.fits c.requires.bit c.ranges.target.fits
    c.requires.target)

pub returns-clause-returns : goal.returns-clause-returns
returns-clause-returns c =
    subst (Returns c.args.at c.args.bit c.args.back) (sym (returns-clause-words c))
    (returns c.args.at c.args.bit c.args.target c.args.back c.requires.bit c.ranges.back.fits c.requires.back)
