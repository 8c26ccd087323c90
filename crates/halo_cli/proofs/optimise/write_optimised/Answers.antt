-- The options fit, and what is made of them is what the command writes.
use Rattle.std.proofs.Common.{◌≤◌, inl, inr, refl, rules, sym, subst}
use Rattle.grouping.specs.declared.making.Options.{Options}
use Rattle.halo_cli.proofs.optimise.write_optimised.Goals as goal

pub optimise-requires-clause-least_edge : goal.optimise-requires-clause-least_edge
optimise-requires-clause-least_edge g c = (
  subst (λ (o : Options). 1 ≤ o.least_edge) (sym c.options_of-options.ensures.value) c.requires.least_edge,
  c.options_of-options.ensures.least_edge,
)

pub returns-in-Ok-write_all-clause-wrote : goal.returns-in-Ok-write_all-clause-wrote
returns-in-Ok-write_all-clause-wrote g c =
    let plan = rw (c.area_of.ensures.value, c.options_of-options.ensures.value) at c.in-Ok.ensures.plan in
    let new = rw c.deref.ensures.value at c.in-Ok.ensures.new in
    inr (
      c.in-Ok.made.file.items,
      (c.in-Ok.made.plan, (c.in-Ok.made.groups, plan), new),
      inl (refl, search rules),
    )

pub returns-clause-wrote : goal.returns-clause-wrote
returns-clause-wrote g c =
    let plan = rw (c.area_of.ensures.value, c.options_of-options.ensures.value) at c.in-Ok.ensures.plan in
    let new = rw c.deref.ensures.value at c.in-Ok.ensures.new in
    inr (
      c.in-Ok.made.file.items,
      (c.in-Ok.made.plan, (c.in-Ok.made.groups, plan), new),
      inr (refl, search rules, search rules),
    )
