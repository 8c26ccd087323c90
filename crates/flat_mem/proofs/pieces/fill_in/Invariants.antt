-- The byte stands at the addresses so far.
use Rattle.std.proofs.Common.{◌≡◌, ℕ, ◌-◌, ◌≤◌, length, replicate}
use Rattle.flat_mem.specs.Areas.{byte_in, over}
use Rattle.flat_mem.proofs.pieces.fill_in.Given as goal

abbrev pub invariant-loop-done : goal.invariant-loop-done
invariant-loop-done l = record {
  inside : l.done ≤ l.size;
  long : length l.bytes ≡ length l.fn.bytes;
  stored : (a : ℕ) → byte_in l.directory l.bytes a
      ≡ over (byte_in l.directory l.fn.bytes) l.addr (replicate l.done l.byte) a;
}

abbrev pub decreases-loop-done : goal.decreases-loop-done
decreases-loop-done l = l.size - l.done
