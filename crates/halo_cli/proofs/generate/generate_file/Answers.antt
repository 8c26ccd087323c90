-- The operand fits the table.
use Rattle.std.proofs.Common.{◌≤◌, sym, subst}
use Rattle.halo_cli.proofs.GenDue.{nodes_least}
use Rattle.halo_cli.proofs.generate.generate_file.Goals as goal

pub generate-requires-clause-least : goal.generate-requires-clause-least
generate-requires-clause-least g c =
    subst (λ n. 1 ≤ n) (sym c.nodes_of.ensures.value)
    (nodes_least c.what_a_line_gives_fits.ensures.operands c.requires.asks.0 c.args.values.now c.requires.asks.1
    c.requires.word)
