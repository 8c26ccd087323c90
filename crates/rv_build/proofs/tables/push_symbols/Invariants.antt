use Rattle.std.proofs.Common.{◌≡◌, ◌+◌, ◌*◌, ◌≤◌, ◌++◌, drop, replicate}
use Rattle.rv_build.specs.Built.{symbol_entries}
use Rattle.rv_build.proofs.tables.push_symbols.Given as goal

-- the entries so far and those that are left are all
abbrev pub invariant-loop-symbol : goal.invariant-loop-symbol
invariant-loop-symbol l = record {
  done : l.out.items ++ symbol_entries l.name (drop l.symbol-index l.symbols) ≡ (l.fn.out.items ++ replicate 16 0)
      ++ symbol_entries 34 l.symbols;
  low : l.name ≤ 34 + 65 * l.symbol-index;
}
