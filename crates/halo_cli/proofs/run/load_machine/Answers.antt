use Rattle.std.proofs.Common.{◌≡◌, List, ℕ, None, rules}
use Rattle.elf_read.specs.Refusals.{refusal}
use Rattle.elf_spec.specs.Records.{e_entry}
use Rattle.machine_spec.specs.Memory.{memory_of}
use Rattle.halo_cli.proofs.run.load_machine.Goals as goal

pub returns-in-Ok-load-clause-loaded : goal.returns-in-Ok-load-clause-loaded
returns-in-Ok-load-clause-loaded g c =
    let file : List ℕ = c.in-Ok.file.items in
    let none : refusal file ≡ None = search rules in
    let memory : c.in-Ok-load.memory ≡ memory_of file = search rules in
    let entry : c.in-Ok-read_elf.elf.entry ≡ e_entry file = search rules in
    (file, (search rules, none), c.start.ensures.file file memory entry)
