use Rattle.std.proofs.Common.{◌≡◌, ◌++◌, take}
use Rattle.rv_build.specs.Built.{section_names, symbol_names}
use Rattle.rv_build.proofs.tables.push_names.Given as goal

-- the names so far have been added
abbrev pub invariant-loop-symbol : goal.invariant-loop-symbol
invariant-loop-symbol l = l.out.items ≡ l.fn.out.items ++ section_names ++ symbol_names (take l.symbol-index l.symbols)
