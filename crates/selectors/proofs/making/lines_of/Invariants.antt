use Rattle.std.proofs.Common.{◌≡◌, take}
use Rattle.selectors.specs.Rows.{numbered}
use Rattle.selectors.proofs.making.lines_of.Given as goal

abbrev pub invariant-loop-i : goal.invariant-loop-i
invariant-loop-i l = l.lines.items ≡ numbered 0 (take l.i l.sites)
