use Rattle.std.proofs.Common.{rules}
use Rattle.group_policy.proofs.Quotients.{score_is}
use Rattle.group_policy.proofs.densities.score.Goals as goal

pub returns : goal.returns
returns c = search (rules, score_is)
