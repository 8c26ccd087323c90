-- What was read is rewritten.
use Rattle.std.proofs.Common.{inr}
use Rattle.std.proofs.lemmas.Result.{IfOk-weaker, IfErr-weaker}
use Rattle.halo_cli.specs.RewriteCommand.{TextRewrites}
use Rattle.halo_cli.proofs.PlanAndFileDue.{read_cause, made_cause}
use Rattle.halo_cli.proofs.RewriteDue.{made_comes, made_writes}
use Rattle.halo_cli.proofs.rewrite.make_new_file.Goals as goal

pub returns-in-Err-clause-cause : goal.returns-in-Err-clause-cause
returns-in-Err-clause-cause g c = read_cause TextRewrites _ _ _ _ _ c.in-Err.ensures.cause

pub returns-in-Ok-clause-first : goal.returns-in-Ok-clause-first
returns-in-Ok-clause-first g c =
    IfErr-weaker _ _ _ (λ ending stop. c.in-Ok.ensures.whole ending) c.new_file.ensures.stops

pub returns-in-Ok-clause-fits : goal.returns-in-Ok-clause-fits
returns-in-Ok-clause-fits g c =
    IfOk-weaker _ _ _ (λ new made. inr (inr (_, _, c.in-Ok.ensures.read, made_comes _ _ _ made)))
    (rw (c.deref.ensures.value, c.deref-in-Ok.ensures.value) at c.new_file.ensures.made)

pub returns-in-Ok-clause-made : goal.returns-in-Ok-clause-made
returns-in-Ok-clause-made g c =
    IfOk-weaker _ _ _ (λ new made. made_writes _ _ _ _ _ _ _ c.in-Ok.ensures.read made)
    (rw (c.deref.ensures.value, c.deref-in-Ok.ensures.value) at c.new_file.ensures.made)

pub returns-in-Ok-clause-cause : goal.returns-in-Ok-clause-cause
returns-in-Ok-clause-cause g c =
    IfErr-weaker _ _ _ (λ e due. made_cause TextRewrites _ _ _ _ _ _ e c.in-Ok.ensures.read due)
    (rw (c.deref.ensures.value, c.deref-in-Ok.ensures.value) at c.new_file.ensures.cause)
