-- All addresses allow the access where those that are left do.
use Rattle.std.proofs.Common.{◌≡◌, ◌+◌, ◌-◌, ◌≤◌}
use Rattle.machine_spec.specs.Memory.{all_from, range_at}
use Rattle.flat_mem.specs.Areas.{allows}
use Rattle.flat_mem.proofs.storage.Storage.allows_all.Given as goal

abbrev pub invariant-loop-done : goal.invariant-loop-done
invariant-loop-done l = record {
  inside : l.done ≤ l.len;
  rest : all_from (λ k. allows l.fn.access (range_at l.fn.self k)) l.addr l.len
      ≡ all_from (λ k. allows l.fn.access (range_at l.fn.self k)) (l.addr + l.done) (l.len - l.done);
}

abbrev pub decreases-loop-done : goal.decreases-loop-done
decreases-loop-done l = l.len - l.done
