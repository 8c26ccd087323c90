-- Each number was appended to what was written before.
use Rattle.std.proofs.Common.{rules}
use Rattle.halo_cli.proofs.SelfLines.{lines_are}
use Rattle.halo_cli.proofs.self_run.lines.Goals as goal

pub returns : goal.returns
returns c =
    lines_are c.args.nodes c.args.source.now.status c.args.source.now.steps _ _ _ c.args.status _ _ _ _ _ _
    _ _ _ _ _ _ _ _ c.new-out.ensures.items c.in_ok-push_number.ensures
    c.in_ok-push_number-2.ensures (search rules)
    c.in_ok-push_number-3.ensures (search rules)
    c.in_ok-push_number-4.ensures (search rules)
    c.in_ok-push_number-5.ensures (search rules)
    c.in_ok-push_number-6.ensures (search rules)
    c.in_ok-push_number-7.ensures (search rules)
