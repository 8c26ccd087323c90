-- No site is at the address if the first one not below it isn't.
use Rattle.std.proofs.Common.{◌≡◌, ltb, get_or, rules, arith}
use Rattle.std.specs.List.Sorted.{IsNonDecreasingBy}
use Rattle.std.proofs.lemmas.List.{get_or_default}
use Rattle.std.proofs.lemmas.List.Sorted.{IsPartitionPoint-from_clause, IsPartitionedBy-ltb}
use Rattle.exec_image.proofs.SiteSteps.{above_of, absent, below_of, rising}
use Rattle.exec_image.proofs.sites.find_site.Goals as goal
use Rattle.exec_image.proofs.sites.find_site.Goals.{else-i-sites-via-then-i-sites+else-sites-i}
use Rattle.exec_image.proofs.sites.find_site.Goals.{else-i-sites-via-else-i-sites}

pub returns-else-i-sites : goal.returns-else-i-sites
returns-else-i-sites c =
    let up : IsNonDecreasingBy (λ s. s.addr) c.args.sites.now = rising c.args.file.now c.args.sites.now c.requires in
    let parted = IsPartitionedBy-ltb (λ s. s.addr) _ c.args.addr up in
    let point = IsPartitionPoint-from_clause (λ s. ltb s.addr c.args.addr) _ _ c.partition_point-i.ensures.partitioned
    parted (λ a r q k. search rules) in
    elim c.else-i-sites.branch [
      | else-i-sites-via-then-i-sites+else-sites-i w ↦
          absent c.args.file.now c.args.sites.now c.args.addr c.partition_point-i.result c.requires
          (λ k d l. below_of (get_or c.args.sites.now k d).addr c.args.addr (point.0 k d (omega arith) l))
          (λ d l.
          let e : get_or c.args.sites.now c.partition_point-i.result d
          ≡ get_or c.args.sites.now c.partition_point-i.result _ =
          get_or_default c.args.sites.now c.partition_point-i.result d _ l in
          above_of (get_or c.args.sites.now c.partition_point-i.result d).addr c.args.addr
          (point.1 c.partition_point-i.result d (omega arith) l) (λ q. w.if-sites-i.false (rw e at q)))
      | else-i-sites-via-else-i-sites w ↦
          absent c.args.file.now c.args.sites.now c.args.addr c.partition_point-i.result c.requires
          (λ k d l. below_of (get_or c.args.sites.now k d).addr c.args.addr (point.0 k d (omega arith) l))
          (λ d l. absurd (omega arith))
    ]
