-- The checks keep what they say.
use Rattle.exec_image.proofs.image.Image.elf.Goals as goal

pub returns-clause-facts : goal.returns-clause-facts
returns-clause-facts c =
    rw (← c.self.view_is) (c.accepted_files_keep_their_facts.ensures c.self.inside.file.items c.self.invariant.accepted)
