-- The parts without the executable sections so far.
use Rattle.std.proofs.Common.{◌≡◌, ℕ, take}
use Rattle.std.specs.Prelude.{◌&&◌, not}
use Rattle.std.specs.List.{list_any}
use Rattle.sym_memory.specs.declared.parts.Access.{Access}
use Rattle.sym_memory.specs.Parts.{allowed}
use Rattle.sym_memory.specs.Starting.{is_in_exec}
use Rattle.sym_memory.proofs.image_parts.without_code.Given as goal

abbrev pub invariant-loop-exec : goal.invariant-loop-exec
invariant-loop-exec l = (access : Access) (a : ℕ)
    → allowed access l.rest.items a
    ≡ (allowed access l.fn.parts.items a && not (list_any (is_in_exec a) (take l.exec-index l.execs)))
