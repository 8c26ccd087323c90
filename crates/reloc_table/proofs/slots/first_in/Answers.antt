-- The first number that is not below the one is the least of those.
use Rattle.std.proofs.Common.{ℕ, List, ltb, get_or, arith, rules}
use Rattle.std.proofs.lemmas.List.Folds.{list_any_at}
use Rattle.std.proofs.lemmas.List.Sorted.{IsPartitionPoint-from_clause, IsPartitionedBy-ltb}
use Rattle.reloc_table.proofs.Once.{itself}
use Rattle.reloc_table.proofs.Searched.{IsFirst, first_from, first_least, missing}
use Rattle.reloc_table.proofs.slots.first_in.Goals as goal

pub returns-then-k-sorted-clause-none : goal.returns-then-k-sorted-clause-none
returns-then-k-sorted-clause-none c =
    let xs : List ℕ = c.args.sorted.now in
    let k : ℕ = c.partition_point-k.result in
    let parted = IsPartitionedBy-ltb (λ x. x) xs c.args.from c.requires in
    let point : IsFirst c.args.from xs k =
    IsPartitionPoint-from_clause (λ x. ltb x c.args.from) _ _ c.partition_point-k.ensures.partitioned parted
    (λ a r q k. search rules) in
    λ b l u. missing c.args.from b k xs point l (λ i d n m. absurd (omega arith))

pub returns-then-next-to-clause-found : goal.returns-then-next-to-clause-found
returns-then-next-to-clause-found c =
    let xs : List ℕ = c.args.sorted.now in
    let k : ℕ = c.partition_point-k.result in
    let parted = IsPartitionedBy-ltb (λ x. x) xs c.args.from c.requires in
    let point : IsFirst c.args.from xs k =
    IsPartitionPoint-from_clause (λ x. ltb x c.args.from) _ _ c.partition_point-k.ensures.partitioned parted
    (λ a r q k. search rules) in (
      first_from c.args.from k xs point (omega arith),
      omega arith,
      list_any_at _ xs k 0 (omega arith)
          (itself (get_or xs k 0)),
    )

pub returns-then-next-to-clause-first : goal.returns-then-next-to-clause-first
returns-then-next-to-clause-first c =
    let xs : List ℕ = c.args.sorted.now in
    let k : ℕ = c.partition_point-k.result in
    let parted = IsPartitionedBy-ltb (λ x. x) xs c.args.from c.requires in
    let point : IsFirst c.args.from xs k =
    IsPartitionPoint-from_clause (λ x. ltb x c.args.from) _ _ c.partition_point-k.ensures.partitioned parted
    (λ a r q k. search rules) in
    λ b l u. missing c.args.from b k xs point l (first_least xs k b c.requires (omega arith) u)

pub returns-else-next-to-clause-none : goal.returns-else-next-to-clause-none
returns-else-next-to-clause-none c =
    let xs : List ℕ = c.args.sorted.now in
    let k : ℕ = c.partition_point-k.result in
    let parted = IsPartitionedBy-ltb (λ x. x) xs c.args.from c.requires in
    let point : IsFirst c.args.from xs k =
    IsPartitionPoint-from_clause (λ x. ltb x c.args.from) _ _ c.partition_point-k.ensures.partitioned parted
    (λ a r q k. search rules) in
    λ b l u. missing c.args.from b k xs point l (first_least xs k b c.requires (omega arith) (omega (arith, u)))
