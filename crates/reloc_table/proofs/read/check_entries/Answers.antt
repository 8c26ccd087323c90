-- The slots of a kept section are among those of the tables.
use Rattle.std.proofs.Common.{◌∙◌, sym}
use Rattle.reloc_table.proofs.KeptTables.{bad_among}
use Rattle.reloc_table.proofs.read.check_entries.Goals as goal

pub check_section-requires-clause-bad : goal.check_section-requires-clause-bad
check_section-requires-clause-bad c =
    bad_among c.args.file.now c.args.symbols c.args.bad.now c.args.sections.now c.loop-i.i _ c.requires.bad
    c.loop-i-test.true
    (sym c.is_kept.ensures ∙ c.if-is_kept.true)
