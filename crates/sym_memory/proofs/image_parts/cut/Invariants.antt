-- The parts so far, without the addresses.
use Rattle.std.proofs.Common.{◌≡◌, ℕ, take}
use Rattle.std.specs.Prelude.{◌&&◌}
use Rattle.sym_memory.specs.declared.parts.Access.{Access}
use Rattle.sym_memory.specs.Parts.{allowed, is_outside}
use Rattle.sym_memory.proofs.image_parts.cut.Given as goal

abbrev pub invariant-loop-part : goal.invariant-loop-part
invariant-loop-part l = (access : Access) (a : ℕ)
    → allowed access l.rest.items a ≡ (allowed access (take l.part-index l.parts) a && is_outside l.start l.end a)
