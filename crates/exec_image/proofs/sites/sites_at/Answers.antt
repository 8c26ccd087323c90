-- One place more.
use Rattle.std.proofs.Common.{◌∙◌, refl, sym, arith}
use Rattle.exec_image.proofs.SiteSteps.{finish, none, skip, some}
use Rattle.exec_image.proofs.sites.sites_at.Goals as goal
use Rattle.exec_image.proofs.sites.sites_at.Goals.{then-p-next, in-Some+in_ok-push, in_default, else-p-next}

pub loop-p-preserved : goal.loop-p-preserved
loop-p-preserved c = elim c.if-p-next.branch [
  | then-p-next w ↦ elim w.match-site_at.branch [
    | in-Some+in_ok-push v ↦
        rw (w.list-is, w.next-is, v.list-is, v.in_ok-push.ensures.ok)
        (some c.args.from.now.file.now c.args.places.now c.loop-p.list c.loop-p.next c.loop-p.p-index _ v.in-Some.s
        c.loop-p.invariant c.requires.rise c.requires.all
        (omega arith) refl (omega arith) (sym w.site_at.ensures ∙ v.in-Some.is))
    | in_default v ↦
        rw (w.list-is, w.next-is, v.list-is)
        (none c.args.from.now.file.now c.args.places.now c.loop-p.list c.loop-p.next c.loop-p.p-index _ c.loop-p.invariant
        c.requires.rise c.requires.all
        (omega arith) refl (omega arith) (sym w.site_at.ensures ∙ v.in_default.is))
  ]
  | else-p-next w ↦ rw (w.list-is, w.next-is)
      (skip c.args.from.now.file.now c.args.places.now c.loop-p.list c.loop-p.next c.loop-p.p-index c.loop-p.invariant
      (omega arith))
]

pub returns : goal.returns
returns c =
    finish c.args.from.now.file.now c.args.places.now c.loop-p.list c.loop-p.next c.loop-p.p-index c.loop-p.invariant
    c.requires.all (omega arith)
