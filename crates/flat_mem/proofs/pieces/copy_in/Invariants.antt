-- The bytes so far are copied.
use Rattle.std.proofs.Common.{◌≡◌, ◌-◌, ◌≤◌, length, map, take}
use Rattle.std.specs.List.{range_with_len}
use Rattle.flat_mem.specs.Areas.{byte_in}
use Rattle.flat_mem.proofs.pieces.copy_in.Given as goal

abbrev pub invariant-loop-done : goal.invariant-loop-done
invariant-loop-done l = record {
  inside : l.done ≤ length l.into;
  copied : take l.done l.into ≡ map (byte_in l.directory l.bytes) (range_with_len l.addr l.done);
}

abbrev pub decreases-loop-done : goal.decreases-loop-done
decreases-loop-done l = length l.initial.into - l.done
