use Rattle.halo_cli.proofs.RewriteEnds.{rewrite_stops, rewrite_done, rewrite_cut}
use Rattle.halo_cli.proofs.rewrite.write_new_file.Goals as goal

pub returns-in-Err : goal.returns-in-Err
returns-in-Err g c = λ given input plan_is file_is.
    rewrite_stops _ _ given plan_is file_is _ _ input c.in-Err.ensures.reads _ _
    c.in-Err.ensures.stops c.in-Err.ensures.first c.in-Err.ensures.cause

pub returns-in-Ok-write_all : goal.returns-in-Ok-write_all
returns-in-Ok-write_all g c = λ given input plan_is file_is.
    rewrite_done _ _ given plan_is file_is _ _ input c.in-Ok.ensures.reads _ _
    (record { tells = c.write_all.ensures.tells; later = c.write_all.ensures.later }) _
    c.in-Ok.ensures.fits c.in-Ok.ensures.made c.in-Ok.ensures.whole
    (rw c.deref.ensures.value at c.in-Ok-write_all.ensures.whole)

pub returns : goal.returns
returns g c = λ given input plan_is file_is.
    rewrite_cut _ _ given plan_is file_is _ _ input c.in-Ok.ensures.reads _ _
    (record { tells = c.write_all.ensures.tells; later = c.write_all.ensures.later }) _
    c.in-Ok.ensures.fits c.in-Ok.ensures.made c.in-Ok.ensures.whole
    c.in-Err-write_all.ensures.failed (rw c.deref.ensures.value at c.in-Err-write_all.ensures.part)
