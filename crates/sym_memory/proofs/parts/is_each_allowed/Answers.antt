use Rattle.std.proofs.Common.{sym, ◌∙◌}
use Rattle.sym_memory.specs.Parts.{allowed}
use Rattle.sym_memory.proofs.PartLaws.{each_more}
use Rattle.sym_memory.proofs.parts.is_each_allowed.Goals as goal

pub loop-i-preserved : goal.loop-i-preserved
loop-i-preserved c =
    c.loop-i.invariant ∙ each_more (allowed c.args.access c.args.parts.now) c.args.addr c.args.size c.loop-i.i
    c.loop-i-test.true (sym c.if-not-is_allowed.ensures)
