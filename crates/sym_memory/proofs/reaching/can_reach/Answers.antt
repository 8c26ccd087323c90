use Rattle.std.proofs.Common.{◌+◌, nat_le, ap, sym, ◌∙◌, arith}
use Rattle.sym_memory.proofs.KeptLaws.{same_length, reach_living, reach_dead, reach_past}
use Rattle.sym_memory.proofs.reaching.can_reach.Goals as goal
use Rattle.sym_memory.proofs.reaching.can_reach.Goals.{else-block-buffers-via-then-block-buffers+else-lives}
use Rattle.sym_memory.proofs.reaching.can_reach.Goals.{else-block-buffers-via-else-block-buffers}

pub lives-requires : goal.lives-requires
lives-requires c = let n = same_length _ _ c.requires.kept in omega (arith, n)

pub capacity-requires : goal.capacity-requires
capacity-requires c = let n = same_length _ _ c.requires.kept in omega (arith, n)

pub returns-then-lives : goal.returns-then-lives
returns-then-lives c =
    ap (nat_le (c.args.offset + c.args.size)) c.capacity.ensures
    ∙ sym (reach_living _ _ c.args.block c.args.offset c.args.size c.requires.kept (sym c.lives.ensures
    ∙ c.if-lives.true))

pub returns-else-block-buffers : goal.returns-else-block-buffers
returns-else-block-buffers c =
    elim c.else-block-buffers.branch [
      | else-block-buffers-via-then-block-buffers+else-lives w ↦
          reach_dead _ _ c.args.block c.args.offset c.args.size c.requires.kept (sym w.lives.ensures ∙ w.if-lives.false)
      | else-block-buffers-via-else-block-buffers w ↦
          reach_past _ _ c.args.block c.args.offset c.args.size c.requires.kept w.if-block-buffers.false
    ]
