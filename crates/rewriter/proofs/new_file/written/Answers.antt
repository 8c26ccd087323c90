-- The new file of the image is that of its bytes.
use Rattle.rewriter.proofs.NewFiles.{header_is, readable_is}
use Rattle.rewriter.proofs.new_file.written.Goals as goal

pub returns-clause-entry : goal.returns-clause-entry
returns-clause-entry c =
    header_is _ c.args.image.now c.args.patches.now c.args.segments.now c.in_ok-new.new.items c.file.ensures
    c.in_ok-new.ensures.layout c.elf.ensures.facts.facts.long c.requires.parts

pub returns-clause-readable : goal.returns-clause-readable
returns-clause-readable c =
    readable_is _ c.args.image.now c.args.patches.now c.args.segments.now c.in_ok-new.new.items c.file.ensures
    c.in_ok-new.ensures.headers c.in_ok-new.ensures.readable c.requires.parts
