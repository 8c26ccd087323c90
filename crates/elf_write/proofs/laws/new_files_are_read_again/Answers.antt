-- The new file has its layout, and what is laid out so is read again.
use Rattle.elf_spec.specs.NewFile.{new_file}
use Rattle.elf_read.specs.Readable.{ReadableFacts}
use Rattle.elf_write.proofs.LayoutLaw.{new_layout}
use Rattle.elf_write.proofs.StillReadable.{readable_new}
use Rattle.elf_write.proofs.laws.new_files_are_read_again.Goals as goal

pub returns : goal.returns
returns c = λ file patches segments readable inside behind few beside alone pass.
    let facts : ReadableFacts file = c.readable_files_keep_their_facts.ensures file readable in
    readable_new file patches segments (new_file file patches segments)
    (new_layout file patches segments record { long = facts.long; table = facts.segment_table; inside = inside })
    readable facts behind few beside alone pass
