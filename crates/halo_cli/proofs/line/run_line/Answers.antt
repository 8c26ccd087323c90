use Rattle.halo_words.specs.Grammar.{texts}
use Rattle.halo_cli.proofs.Due.{stop_ends}
use Rattle.halo_cli.proofs.line.run_line.Goals as goal

pub returns-in-Err : goal.returns-in-Err
returns-in-Err g c =
    rw c.stopped.ensures (stop_ends _ (texts c.args.words.now) c.in-Err.stop _ c.in-Err.ensures.stops)
