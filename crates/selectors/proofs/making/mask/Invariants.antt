use Rattle.std.proofs.Common.{◌≡◌, drop}
use Rattle.selectors.specs.Rows.{mask_of}
use Rattle.selectors.proofs.making.mask.Given as goal

abbrev pub invariant-loop-i : goal.invariant-loop-i
invariant-loop-i l = l.mask ≡ mask_of (drop l.i l.sites) l.set
