-- The last part that begins in time has the greatest end of those.
use Rattle.std.proofs.Common.{rules, ltb}
use Rattle.std.proofs.lemmas.List.Sorted.{IsPartitionPoint-from_clause, IsPartitionedBy-ltb}
use Rattle.exec_image.proofs.LastBegun.{last_begun, none_begun}
use Rattle.exec_image.proofs.parts.meets.Goals as goal

pub returns-then-count-gt0 : goal.returns-then-count-gt0
returns-then-count-gt0 c =
    let parted = IsPartitionedBy-ltb (λ p. p.start) _ c.args.to c.requires.starts in
    let point = IsPartitionPoint-from_clause (λ p. ltb p.start c.args.to) _ _
    c.partition_point-count.ensures.partitioned parted (λ a r q k. search rules) in
    last_begun c.args.from c.args.to c.args.sorted.now c.partition_point-count.result (record { start = 0; end = 0 })
    point c.requires.ends
    c.partition_point-count.ensures.bound c.if-count-gt0.true

pub returns-else-count-gt0 : goal.returns-else-count-gt0
returns-else-count-gt0 c =
    let parted = IsPartitionedBy-ltb (λ p. p.start) _ c.args.to c.requires.starts in
    let point = IsPartitionPoint-from_clause (λ p. ltb p.start c.args.to) _ _
    c.partition_point-count.ensures.partitioned parted (λ a r q k. search rules) in
    none_begun c.args.from c.args.to c.args.sorted.now c.partition_point-count.result point c.if-count-gt0.false
