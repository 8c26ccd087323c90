-- The sites below the next address are there.
use Rattle.exec_image.proofs.SiteSteps.{AreBelow}
use Rattle.exec_image.proofs.sites.sites_at.Given as goal

abbrev pub invariant-loop-p : goal.invariant-loop-p
invariant-loop-p l = AreBelow l.from.file.now l.places l.list l.next l.p-index
