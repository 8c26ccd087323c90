-- Names that are not out are among those of the lengths.
use Rattle.std.proofs.Common.{ℕ, ◌+◌, ◌*◌, ◌/◌, ◌<◌, sym, arith}
use Rattle.elf_spec.specs.Fields.{word_at}
use Rattle.elf_read.specs.Symbols.{is_out_at}
use Rattle.first_check.proofs.Below.{below_none}
use Rattle.elf_read.proofs.EndedNames.{named}
use Rattle.elf_read.proofs.symbols.symbols_in.Goals as goal

pub symbol_list-requires-clause-named : goal.symbol_list-requires-clause-named
symbol_list-requires-clause-named c = λ i l n.
    let t = c.args.tables in
    let w : ℕ = word_at c.args.file.now (t.symbols.offset + 16 * i) in
    let e : w < c.names_end-end.result =
    named c.args.file.now t.strings w c.names_end-end.result c.requires.strings_inside c.names_end-end.ensures.within
    c.names_end-end.ensures.zero c.names_end-end.ensures.last
    (below_none (is_out_at c.args.file.now t) (t.symbols.size / 16) (sym c.in_default.ensures) i l) n in
    omega (arith, e, c.as_slice.ensures.len, c.in-Ok.ensures.count)
