-- The texts of refusals of files, plans and profiles. No ending carries a want of memory inside a refusal.
use Rattle.std.specs.Prelude.{ℕ, List, ◌++◌, codes, decimal}
use Rattle.text_fields.specs.Writing.{hex8}
use Rattle.elf_spec.specs.Heap.{heap_name}
use Rattle.elf_read.specs.declared.refusals.ElfRefusal.{ElfRefusal}
use Rattle.elf_read.specs.declared.refusals.ElfRefusal.TheVariants as elf
use Rattle.elf_read.specs.declared.refusals.Table.{Table}
use Rattle.elf_read.specs.declared.refusals.Table.TheVariants.{Program, Section as Sections}
use Rattle.reloc_table.specs.declared.refusals.RelocRefusal.{RelocRefusal}
use Rattle.reloc_table.specs.declared.refusals.RelocRefusal.TheVariants as reloc
use Rattle.exec_image.specs.declared.refusals.FileRefusal.{FileRefusal}
use Rattle.exec_image.specs.declared.refusals.FileRefusal.TheVariants as file
use Rattle.exec_image.specs.declared.refusals.ImagePart.{ImagePart}
use Rattle.exec_image.specs.declared.refusals.ImagePart.TheVariants.{Headers, Bytes, End}
use Rattle.exec_image.specs.declared.plan_fault.PlanFault.{PlanFault}
use Rattle.exec_image.specs.declared.plan_fault.PlanFault.TheVariants as fault
use Rattle.plan_core.specs.declared.refusals.PlanRefusal.{PlanRefusal}
use Rattle.plan_core.specs.declared.refusals.PlanRefusal.TheVariants as plan
use Rattle.profile_text.specs.declared.refusals.ProfileRefusal.{ProfileRefusal}
use Rattle.profile_text.specs.declared.refusals.ProfileRefusal.TheVariants as profile
use Rattle.endings.specs.declared.endings.BadFile.{BadFile}
use Rattle.endings.specs.declared.endings.BadFile.TheVariants as bad_file
use Rattle.endings.specs.declared.endings.BadPlan.{BadPlan}
use Rattle.endings.specs.declared.endings.BadPlan.TheVariants as bad_plan
use Rattle.endings.specs.declared.endings.BadProfile.{BadProfile}
use Rattle.endings.specs.declared.endings.BadProfile.TheVariants as bad_profile

-- the headers, sections and symbols of a file
abbrev pub table_text : Table → List ℕ
table_text Program = codes "program headers out"
table_text Sections = codes "section headers out"

abbrev pub elf_text : ElfRefusal → List ℕ
elf_text elf.NotElf = codes "not elf"
elf_text (elf.WrongClass n) = codes "class " ++ decimal n
elf_text (elf.WrongOrder n) = codes "byte order " ++ decimal n
elf_text elf.WrongVersion = codes "version"
elf_text (elf.NotExec n) = codes "type " ++ decimal n
elf_text (elf.NotRiscv n) = codes "machine " ++ decimal n
elf_text (elf.Flags flags) = codes "flags " ++ hex8 flags
elf_text (elf.TableOut table) = table_text table
elf_text (elf.TooMany n) = codes "program headers " ++ decimal n
elf_text (elf.SegmentKind i kind) = codes "segment " ++ decimal i ++ codes " kind " ++ hex8 kind
elf_text (elf.SegmentOut i) = codes "segment " ++ decimal i ++ codes " out"
elf_text (elf.SegmentOverlap i) = codes "segment " ++ decimal i ++ codes " overlaps"
elf_text (elf.TooLarge n) = decimal n ++ codes " bytes"
elf_text (elf.SectionOut i) = codes "section " ++ decimal i ++ codes " out"
elf_text (elf.NameOut i) = codes "symbol " ++ decimal i ++ codes " name out"
elf_text elf.Memory = codes "out of memory"

-- its relocations
abbrev pub reloc_text : RelocRefusal → List ℕ
reloc_text reloc.NoRelocs = codes "no relocations"
reloc_text (reloc.EntrySize i) = codes "section " ++ decimal i ++ codes " entry size"
reloc_text (reloc.SymbolOut i entry) = codes "section " ++ decimal i ++ codes " entry " ++ decimal entry
    ++ codes " symbol out"
reloc_text (reloc.Tls place) = codes "tls at " ++ hex8 place
reloc_text (reloc.Compressed place) = codes "compressed at " ++ hex8 place
reloc_text reloc.Memory = codes "out of memory"

-- its image
abbrev pub part_text : ImagePart → List ℕ
part_text Headers = codes "image headers"
part_text Bytes = codes "image bytes"
part_text End = codes "image end"

abbrev pub refusal_text : FileRefusal → List ℕ
refusal_text (file.Elf why) = elf_text why
refusal_text (file.Relocs why) = reloc_text why
refusal_text (file.ExecNotWords i) = codes "section " ++ decimal i ++ codes " not words"
refusal_text (file.ExecOutside i) = codes "section " ++ decimal i ++ codes " outside"
refusal_text (file.EntryOut a) = codes "entry " ++ hex8 a ++ codes " out"
refusal_text (file.HeapEntryTwice name) = heap_name name ++ codes " twice"
refusal_text (file.HeapEntrySmall name) = heap_name name ++ codes " small"
refusal_text file.AlreadyRewritten = codes "already rewritten"
refusal_text (file.ImageTooLarge part) = part_text part
refusal_text (file.TpUsed a) = codes "x4 at " ++ hex8 a
refusal_text file.Memory = codes "out of memory"

abbrev pub file_text : BadFile → List ℕ
file_text bad_file.TooLong = codes "too long"
file_text (bad_file.Refused why) = refusal_text why

-- a plan's text, and a plan for a file
abbrev pub grammar_text : PlanRefusal → List ℕ
grammar_text (plan.Line n) = codes "line " ++ decimal n
grammar_text (plan.TooMany n) = codes "too many at line " ++ decimal n
grammar_text plan.Memory = codes "out of memory"

abbrev pub fault_text : PlanFault → List ℕ
fault_text (fault.PlanSite a) = codes "site " ++ hex8 a
fault_text (fault.PlanBit n) = codes "bit " ++ decimal n
fault_text (fault.PlanRow i) = codes "row " ++ decimal i
fault_text fault.AreaTooLarge = codes "area"
fault_text (fault.SiteOutOfReach a) = codes "site " ++ hex8 a ++ codes " out of reach"

abbrev pub plan_text : BadPlan → List ℕ
plan_text bad_plan.TooLong = codes "too long"
plan_text (bad_plan.Text why) = grammar_text why
plan_text (bad_plan.Misfit why) = fault_text why

-- a profile's text
abbrev pub profile_line_text : ProfileRefusal → List ℕ
profile_line_text (profile.Line n) = codes "line " ++ decimal n
profile_line_text profile.Memory = codes "out of memory"

abbrev pub profile_fault_text : BadProfile → List ℕ
profile_fault_text bad_profile.TooLong = codes "too long"
profile_fault_text (bad_profile.Text why) = profile_line_text why
