-- The bytes so far are stored.
use Rattle.std.proofs.Common.{◌≡◌, ℕ, ◌-◌, ◌≤◌, length, take}
use Rattle.flat_mem.specs.Areas.{byte_in, over}
use Rattle.flat_mem.proofs.pieces.put_in.Given as goal

abbrev pub invariant-loop-done : goal.invariant-loop-done
invariant-loop-done l = record {
  inside : l.done ≤ length l.piece;
  long : length l.bytes ≡ length l.fn.bytes;
  stored : (a : ℕ) → byte_in l.directory l.bytes a
      ≡ over (byte_in l.directory l.fn.bytes) l.addr (take l.done l.piece) a;
}

abbrev pub decreases-loop-done : goal.decreases-loop-done
decreases-loop-done l = length l.piece - l.done
