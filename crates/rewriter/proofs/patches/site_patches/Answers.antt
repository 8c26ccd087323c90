-- A plan that fits has few lines.
use Rattle.rewriter.proofs.patches.site_patches.Goals as goal

pub line_patches-requires-clause-few : goal.line_patches-requires-clause-few
line_patches-requires-clause-few c =
    rw c.as_slice.ensures (c.fitting_plans_have_few_sites.ensures c.args.image.now c.args.plan.now c.requires.fits)
