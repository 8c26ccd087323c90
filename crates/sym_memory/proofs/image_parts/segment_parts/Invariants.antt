-- What the segments so far take.
use Rattle.std.proofs.Common.{◌≡◌, ℕ, take}
use Rattle.std.specs.Prelude.{◌&&◌}
use Rattle.std.specs.List.{list_any}
use Rattle.elf_spec.specs.Memory.{is_loaded}
use Rattle.sym_memory.specs.declared.parts.Access.{Access}
use Rattle.sym_memory.specs.Parts.{gives, allowed}
use Rattle.sym_memory.specs.Starting.{segment_part}
use Rattle.sym_memory.proofs.image_parts.segment_parts.Given as goal

abbrev pub invariant-loop-segment : goal.invariant-loop-segment
invariant-loop-segment l = (access : Access) (a : ℕ)
    → allowed access l.parts.items a
    ≡ list_any (λ s. is_loaded s && gives access a (segment_part s)) (take l.segment-index l.segments)
