use Rattle.std.proofs.Common.{sym}
use Rattle.halo_cli.proofs.show.show_file.Goals as goal

pub returns : goal.returns
returns g c = λ input. c.write_summary.ensures c.args.values.now.given input (sym c.operand.ensures)
