-- The parts without the header's bytes in the segments so far.
use Rattle.std.proofs.Common.{◌≡◌, ℕ, take}
use Rattle.std.specs.Prelude.{◌&&◌, not}
use Rattle.std.specs.List.{list_any}
use Rattle.sym_spec.specs.Plain.{is_header_byte}
use Rattle.sym_memory.specs.declared.parts.Access.{Access}
use Rattle.sym_memory.specs.Parts.{allowed}
use Rattle.sym_memory.proofs.image_parts.without_header.Given as goal

abbrev pub invariant-loop-segment : goal.invariant-loop-segment
invariant-loop-segment l = (access : Access) (a : ℕ)
    → allowed access l.rest.items a
    ≡ (allowed access l.fn.parts.items a && not (list_any (is_header_byte a) (take l.segment-index l.segments)))
