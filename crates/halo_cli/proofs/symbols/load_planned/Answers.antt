-- What was read is a plan and a file.
use Rattle.std.proofs.lemmas.Result.{IfErr-weaker}
use Rattle.halo_cli.specs.Symbols.{TextRuns}
use Rattle.halo_cli.proofs.PlanAndFileDue.{read_cause, made_cause}
use Rattle.halo_cli.proofs.symbols.load_planned.Goals as goal

pub returns-in-Err-clause-cause : goal.returns-in-Err-clause-cause
returns-in-Err-clause-cause g c = read_cause (TextRuns (λ run ending. ⊥)) _ _ _ _ _ c.in-Err.ensures.cause

pub returns-in-Ok-clause-first : goal.returns-in-Ok-clause-first
returns-in-Ok-clause-first g c =
    IfErr-weaker _ _ _ (λ ending stop. c.in-Ok.ensures.whole ending) c.planned_of.ensures.stops

pub returns-in-Ok-clause-cause : goal.returns-in-Ok-clause-cause
returns-in-Ok-clause-cause g c =
    IfErr-weaker _ _ _ (λ e due. made_cause (TextRuns (λ run ending. ⊥)) _ _ _ _ _ _ e c.in-Ok.ensures.read due)
    (rw (c.deref.ensures.value, c.deref-in-Ok.ensures.value) at c.planned_of.ensures.cause)
