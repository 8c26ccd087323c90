use Rattle.frag_code.specs.Fragments.{plain}
use Rattle.frag_code.proofs.Keeping.{runs, runs_shown}
use Rattle.frag_code.proofs.compiling.compile.Goals as goal

pub returns-clause-runs : goal.returns-clause-runs
returns-clause-runs c =
    rw (c.in_ok-emit.ensures, c.in_ok-code.ensures.items) (runs c.words_and_instructions_agree.ensures.decodes
    (plain c.args.f.now) c.requires)

pub returns-clause-runs_shown : goal.returns-clause-runs_shown
returns-clause-runs_shown c =
    rw (c.in_ok-emit.ensures, c.in_ok-code.ensures.items) (runs_shown c.words_and_instructions_agree.ensures.decodes
    (plain c.args.f.now) c.requires)
