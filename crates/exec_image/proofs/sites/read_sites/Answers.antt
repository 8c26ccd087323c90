-- A site has an entry, whose place is among all.
use Rattle.std.proofs.Common.{◌∙◌}
use Rattle.exec_image.proofs.SiteShape.{shape}
use Rattle.exec_image.proofs.sites.read_sites.Goals as goal

pub sites_at-requires-clause-all : goal.sites_at-requires-clause-all
sites_at-requires-clause-all c = λ a s h.
    rw c.as_slice.ensures.value (c.requires.calls.all a ∙ (shape c.args.from.now.file.now a s h).reloc)
