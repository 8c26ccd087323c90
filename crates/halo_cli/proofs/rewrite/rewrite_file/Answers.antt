use Rattle.std.proofs.Common.{sym}
use Rattle.halo_cli.proofs.rewrite.rewrite_file.Goals as goal

pub returns : goal.returns
returns g c = λ input.
    c.write_new_file.ensures c.args.values.now.given input (sym c.operand-plan_name.ensures)
    (sym c.operand-file_name.ensures)
