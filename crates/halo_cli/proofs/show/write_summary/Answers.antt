use Rattle.halo_cli.proofs.ShowEnds.{show_stops}
use Rattle.halo_cli.proofs.show.write_summary.Goals as goal

pub returns-in-Err : goal.returns-in-Err
returns-in-Err g c = λ given input is.
    show_stops c.args.name.now given is _ _ input _ _ c.in-Err.ensures.reads c.in-Err.ensures.stops
    c.in-Err.ensures.first c.in-Err.ensures.cause
