-- All addresses are allowed where those that are left are.
use Rattle.std.proofs.Common.{◌≡◌, ◌+◌, ◌-◌}
use Rattle.machine_spec.specs.Memory.{all_from}
use Rattle.sym_memory.specs.Parts.{allowed}
use Rattle.sym_memory.proofs.parts.is_each_allowed.Given as goal

abbrev pub invariant-loop-i : goal.invariant-loop-i
invariant-loop-i l =
    all_from (allowed l.access l.parts) l.addr l.size
    ≡ all_from (allowed l.access l.parts) (l.addr + l.i) (l.size - l.i)
