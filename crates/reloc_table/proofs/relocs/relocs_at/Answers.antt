-- The slots are in the file.
use Rattle.reloc_table.proofs.Once.{slots_inside}
use Rattle.reloc_table.proofs.relocs.relocs_at.Goals as goal

pub entries_at-requires : goal.entries_at-requires
entries_at-requires c = slots_inside _ c.args.tables.items c.args.slots.now c.requires.short c.requires.inside
    c.requires.slots
