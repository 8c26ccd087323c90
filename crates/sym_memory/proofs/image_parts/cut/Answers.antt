use Rattle.sym_memory.specs.Parts.{gives, is_outside}
use Rattle.sym_memory.proofs.ImageLaws.{cut_more, pieces}
use Rattle.sym_memory.proofs.image_parts.cut.Goals as goal

pub loop-part-preserved : goal.loop-part-preserved
loop-part-preserved c = λ access a.
    cut_more (gives access a) c.args.parts.now c.loop-part.part-index _ (is_outside c.args.start c.args.end a) _ _ _ _ _
    c.loop-part-test.true (c.loop-part.invariant access a) (c.in_ok-add.ensures access a)
    (c.in_ok-add-2.ensures access a)
    (pieces access a c.args.start c.args.end c.min-low.result c.max-high.result _ c.min-low.ensures c.max-high.ensures)
