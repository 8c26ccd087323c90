use Rattle.std.proofs.Common.{◌≡◌, rules, sym, ◌∙◌, subst}
use Rattle.std.proofs.lemmas.Int.{to_z-of_z}
use mir.Syntax.{w128}
use Rattle.group_policy.specs.Cuts.{IsFair}
use Rattle.group_policy.specs.Densities.{density_of}
use Rattle.group_policy.proofs.Quotients.{all_whole, all_fair}
use Rattle.group_policy.proofs.densities.density.Goals as goal

-- what `gain` answers is the density
gained : (c : goal.After-gain) → c.gain.result ≡ density_of c.args.cut
unfolding density_of
gained c = simp (
  c.gain.ensures,
  c.score-both.ensures.value,
  c.max.ensures,
  c.score-group.ensures.value,
  c.score-node.ensures.value,
  c.places_of.ensures.value,
  c.places_of-2.ensures.value,
  c.places_of-3.ensures.value,
  c.loops_of-own_loop.ensures,
)

pub returns-clause-value : goal.returns-clause-value
returns-clause-value c = to_z-of_z w128 c.gain.result (search rules) ∙ gained c

pub returns-clause-whole : goal.returns-clause-whole
returns-clause-whole c = all_whole c.args.cut c.requires

pub returns-clause-fair : goal.returns-clause-fair
returns-clause-fair c =
    subst (IsFair c.args.cut) (sym (returns-clause-value c)) (all_fair c.args.cut c.requires)
