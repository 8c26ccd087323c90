-- The places of the entries that are left are missing.
use Rattle.std.proofs.Common.{◌≡◌, ◌++◌, drop, filter, map}
use Rattle.exec_image.specs.Calls.{is_kind}
use Rattle.exec_image.proofs.calls.places.Given as goal

abbrev pub invariant-loop-r : goal.invariant-loop-r
invariant-loop-r l =
    l.list.items ++ map (λ r. r.place) (filter (is_kind l.low l.high) (drop l.r-index l.relocs))
    ≡ map (λ r. r.place) (filter (is_kind l.low l.high) l.relocs)
