-- No address so far is that of a code word that names x4.
use Rattle.std.proofs.Common.{◌≡◌, ℕ, ◌-◌, ◌<◌, ◌^◌, false}
use Rattle.exec_image.specs.Checks.{uses_tp_at}
use Rattle.exec_image.proofs.tp.find_tp.Given as goal

abbrev pub invariant-loop-a : goal.invariant-loop-a
invariant-loop-a l = (b : ℕ) → b < l.from → uses_tp_at l.file b ≡ false

abbrev pub decreases-loop-a : goal.decreases-loop-a
decreases-loop-a l = 2 ^ 32 - l.from
