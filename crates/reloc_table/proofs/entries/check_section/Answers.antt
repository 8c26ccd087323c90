-- The first marked slot of the section is that of its first refused entry.
use Rattle.std.proofs.Common.{◌≡◌, ◌-◌}
use Rattle.reloc_table.specs.Refusals.{entry_refusal, section_refusal}
use Rattle.reloc_table.proofs.BadEntries.{section_hit, section_none}
use Rattle.reloc_table.proofs.entries.check_section.Goals as goal

pub returns-in-Some : goal.returns-in-Some
returns-in-Some c =
    let start = c.slot_at-start.ensures in
    let found = c.in-Some.ensures.found in
    let hit =
    section_hit c.args.file.now c.args.symbols c.args.section c.args.bad.now c.args.s.now c.in-Some.slot
    c.requires.inside c.requires.short c.requires.bad
    (rw start at found.0) (rw start at found.1) found.2 (rw start at c.in-Some.ensures.first) in
    let e : entry_refusal c.args.symbols c.args.section (c.in-Some.slot - c.slot_at-start.result) c.entry-r.result
    ≡ section_refusal c.args.file.now c.args.symbols c.args.section c.args.s.now = rw (start, c.entry-r.ensures) hit in
    rw e at c.check_entry.ensures

pub returns-in-None : goal.returns-in-None
returns-in-None c =
    section_none c.args.file.now c.args.symbols c.args.section c.args.bad.now c.args.s.now c.requires.inside
    c.requires.short c.requires.bad
    (rw c.slot_at-start.ensures at c.in-None.ensures.none)
