use Rattle.std.proofs.Common.{refl, ap, ap₂, ◌∙◌}
use Rattle.std.specs.Prelude.{◌&&◌}
use Rattle.sym_memory.specs.Parts.{allowed}
use Rattle.sym_memory.specs.Starting.{is_in_exec}
use Rattle.sym_memory.proofs.ImageLaws.{not_more}
use Rattle.sym_memory.proofs.image_parts.without_code.Goals as goal

pub loop-exec-preserved : goal.loop-exec-preserved
loop-exec-preserved c = λ access a.
    not_more (is_in_exec a) c.args.execs.now c.loop-exec.exec-index _ (allowed access c.args.parts.items a) _ _ _
    c.loop-exec-test.true (c.loop-exec.invariant access a)
    (c.in_ok-rest.ensures access a ∙ ap₂ (λ x y. x && y)
    (ap (λ xs. allowed access xs a) c.deref.ensures.value) refl) refl
