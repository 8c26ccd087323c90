use Rattle.std.proofs.Common.{◌∙◌}
use Rattle.group_policy.proofs.Quotients.{own_byte}
use Rattle.group_policy.proofs.densities.loops_of.Goals as goal

pub returns : goal.returns
returns c = c.from.ensures ∙ own_byte c.args.weight
