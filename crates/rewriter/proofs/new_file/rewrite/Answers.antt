-- All checks pass, and the new file is due.
use Rattle.rewriter.proofs.NewFiles.{rewritten_is}
use Rattle.rewriter.proofs.new_file.rewrite.Goals as goal

pub returns-in-Ok-new_file_of-clause-done : goal.returns-in-Ok-new_file_of-clause-done
returns-in-Ok-new_file_of-clause-done c =
    rewritten_is c.args.file.now c.in-Ok.image c.args.plan.now c.in-Ok-new_file_of.new.items c.in-Ok.ensures.1
    c.in-Ok.ensures.0 c.in_default.ensures.exact
    c.in_default.ensures.fits c.in-Ok-new_file_of.ensures.is c.in-Ok-new_file_of.ensures.keeps
    c.in-Ok-new_file_of.ensures.readable c.in-Ok-new_file_of.ensures.short
