use Rattle.std.proofs.Common.{ap, ◌∙◌, arith}
use Rattle.sym_memory.specs.Parts.{allowed}
use Rattle.sym_memory.proofs.ImageLaws.{pushed_gives, empty_gives}
use Rattle.sym_memory.proofs.image_parts.add.Goals as goal

pub returns-in_ok-push : goal.returns-in_ok-push
returns-in_ok-push c = λ access a.
    ap (λ xs. allowed access xs a) c.in_ok-push.ensures.items ∙ pushed_gives access c.args.parts.now.items c.args.part a

pub returns-else-part : goal.returns-else-part
returns-else-part c = λ access a.
    let past = c.if-part.false in empty_gives access c.args.parts.now.items c.args.part a (omega (arith, past))
