use Rattle.std.proofs.Common.{◌≡◌, rules}
use Rattle.elf_spec.specs.Heap.{heap_entry}
use Rattle.exec_image.proofs.Absent.{heap_none}
use Rattle.exec_image.proofs.image.Image.heap_entry.Goals as goal

pub returns-clause-none : goal.returns-clause-none
returns-clause-none c =
    let is : c.entry_in.result ≡ heap_entry c.args.self.now c.args.name = search rules in
    rw is (heap_none c.args.self.now c.args.name)
