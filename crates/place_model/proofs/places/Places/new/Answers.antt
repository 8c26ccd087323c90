use Rattle.std.proofs.Common.{sym, ◌∙◌, subst}
use Rattle.std.specs.Prelude.{List, All, ◌<◌}
use Rattle.plan_core.specs.declared.types.Row.{Row}
use Rattle.place_spec.specs.Sound.{Sound}
use Rattle.place_model.specs.Tables.{FewLive}
use Rattle.place_model.proofs.Kept.{first_sound}
use Rattle.place_model.proofs.Steps.{few_first}
use Rattle.place_model.proofs.places.Places.new.Goals as goal

pub invariant_of-result : goal.invariant_of-result
invariant_of-result c = record {
  groups = subst (λ (rs : List Row). All (λ row. row.group < 16) rs)
      (sym (c.from.ensures ∙ (c.in_ok-rows.ensures.items ∙ c.as_slice.ensures))) c.requires.groups;
  log_chunk = c.requires.log_chunk;
  area = c.requires.area;
  ends = c.requires.ends;
  sound = subst (Sound c.args.plan.now.area) (sym c.in_ok-tables.ensures.layout) (first_sound c.args.plan.now.area);
  few = subst FewLive (sym c.in_ok-tables.ensures.layout) (few_first c.args.plan.now.area);
  starts = c.in_ok-tables.ensures.starts;
  room = c.in_ok-tables.ensures.room;
}

pub returns-clause-sound : goal.returns-clause-sound
returns-clause-sound c = subst (Sound c.args.plan.now.area) (sym c.in_ok-tables.ensures.layout)
    (first_sound c.args.plan.now.area)
