-- No name so far is out.
use Rattle.std.proofs.Common.{◌≡◌, None}
use Rattle.first_check.specs.First.{first_below}
use Rattle.elf_read.specs.Symbols.{is_out_at}
use Rattle.elf_read.proofs.symbols.first_name_out.Given as goal

abbrev pub invariant-loop-i : goal.invariant-loop-i
invariant-loop-i l = first_below (is_out_at l.file l.tables) l.i ≡ None
