-- The parts before the partition point end in time, and the others don't.
use Rattle.std.proofs.Common.{arith, leb, rules}
use Rattle.std.proofs.lemmas.Bool.{leb-false, leb-true}
use Rattle.std.proofs.lemmas.List.Sorted.{IsPartitionPoint-from_clause, IsPartitionedBy-leb}
use Rattle.exec_image.proofs.parts.first_above.Goals as goal

pub returns-clause-below : goal.returns-clause-below
returns-clause-below c =
    let parted = IsPartitionedBy-leb (λ p. p.end) _ c.args.at c.requires in
    let point = IsPartitionPoint-from_clause (λ p. leb p.end c.args.at) _ _ c.partition_point.ensures.partitioned parted
    (λ a r q k. search rules) in
    λ k d l. leb-true _ _ (point.0 k d (omega arith) l)

pub returns-clause-above : goal.returns-clause-above
returns-clause-above c =
    let parted = IsPartitionedBy-leb (λ p. p.end) _ c.args.at c.requires in
    let point = IsPartitionPoint-from_clause (λ p. leb p.end c.args.at) _ _ c.partition_point.ensures.partitioned parted
    (λ a r q k. search rules) in
    λ k d l m. leb-false _ _ (point.1 k d l m)
