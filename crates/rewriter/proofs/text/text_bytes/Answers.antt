-- A plan that fits has few lines.
use Rattle.rewriter.proofs.text.text_bytes.Goals as goal

pub line_bytes-requires-clause-few : goal.line_bytes-requires-clause-few
line_bytes-requires-clause-few c =
    rw c.as_slice.ensures (c.fitting_plans_have_few_sites.ensures c.args.image.now c.args.plan.now c.requires.fits)
