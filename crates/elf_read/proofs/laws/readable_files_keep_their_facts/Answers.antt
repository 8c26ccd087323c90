use Rattle.elf_read.proofs.ReadableFacts.{readable_facts}
use Rattle.elf_read.proofs.laws.readable_files_keep_their_facts.Goals as goal

pub returns : goal.returns
returns c = readable_facts
