use Rattle.std.proofs.Common.{◌≡◌, ◌==◌, drop, find}
use Rattle.sym_machine.proofs.found.mask_at.Given as goal

abbrev pub invariant-loop-line : goal.invariant-loop-line
invariant-loop-line l =
    find (λ line. line.addr == l.addr) (drop l.line-index l.lines) ≡ find (λ line. line.addr == l.addr) l.lines
