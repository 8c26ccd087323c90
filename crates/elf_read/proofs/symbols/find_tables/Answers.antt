-- The sections passed their checks, so the tables are inside the file.
use Rattle.std.proofs.Common.{sym}
use Rattle.elf_read.proofs.TablesInside.{tables_are}
use Rattle.elf_read.proofs.symbols.find_tables.Goals as goal

pub returns-clause-found : goal.returns-clause-found
returns-clause-found c = tables_are c.args.bytes c.args.sections.now c.in-Some.i _ _ c.requires
    (sym c.in-Some.ensures.first)
