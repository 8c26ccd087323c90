-- A reader finds the parts in the file that was made.
use Rattle.std.proofs.Common.{sym, subst}
use Rattle.rv_build.specs.Reads.{Reads}
use Rattle.rv_build.proofs.ReadsLaw.{reads_back}
use Rattle.rv_build.proofs.builder.Builder.finish.Goals as goal

pub returns-clause-reads : goal.returns-clause-reads
returns-clause-reads c = subst (Reads c.args.self.now) (sym c.in_ok-file.ensures) (reads_back c.args.self.now)
