use Rattle.std.proofs.Common.{◌≡◌, ◌*◌, ◌≤◌, length, take}
use Rattle.rv_build.specs.Built.{symbol_names}
use Rattle.rv_build.proofs.offsets.names_size.Given as goal

-- the size of the names so far
abbrev pub invariant-loop-symbol : goal.invariant-loop-symbol
invariant-loop-symbol l = record {
  done : l.size ≡ length (symbol_names (take l.symbol-index l.symbols));
  low : l.size ≤ 65 * l.symbol-index;
}
