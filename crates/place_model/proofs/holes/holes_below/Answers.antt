use Rattle.std.proofs.Common.{nat_lt, ltb-true, ltb-false, rules, arith}
use Rattle.std.proofs.lemmas.List.Sorted.{IsPartitionPoint-from_clause}
use Rattle.place_spec.specs.declared.parts.Hole.{Hole}
use Rattle.place_model.proofs.HoleEdits.{parted}
use Rattle.place_model.proofs.holes.holes_below.Goals as goal

pub returns-clause-below : goal.returns-clause-below
returns-clause-below c = λ k l.
    let point = IsPartitionPoint-from_clause (λ (h : Hole). nat_lt h.start c.args.granule) _ _
    c.partition_point.ensures.partitioned
    (parted c.args.holes.now c.args.granule c.requires) (λ a r q k. search rules) in
    ltb-true _ _ (point.0 k (record { start = 0; length = 0 }) (omega arith) l)

pub returns-clause-above : goal.returns-clause-above
returns-clause-above c = λ k l m.
    let point = IsPartitionPoint-from_clause (λ (h : Hole). nat_lt h.start c.args.granule) _ _
    c.partition_point.ensures.partitioned
    (parted c.args.holes.now c.args.granule c.requires) (λ a r q k. search rules) in
    ltb-false _ _ (point.1 k (record { start = 0; length = 0 }) l m)
