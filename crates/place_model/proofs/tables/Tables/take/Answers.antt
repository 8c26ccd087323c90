use Rattle.std.proofs.Common.{List, ap, sym, ◌∙◌}
use Rattle.place_spec.specs.declared.parts.Hole.{Hole}
use Rattle.place_spec.specs.declared.parts.Spot.{Spot}
use Rattle.place_spec.specs.Layout.{Layout}
use Rattle.place_spec.specs.Place.{granule_of, taken}
use Rattle.place_model.specs.Tables.{layout_of}
use Rattle.place_model.proofs.tables.Tables.take.Goals as goal

pub returns-in-Front-clause-granule : goal.returns-in-Front-clause-granule
unfolding granule_of
returns-in-Front-clause-granule c =
    c.cut_front.ensures.granule ∙ ap (granule_of c.args.area (layout_of c.args.self.now)) (sym c.in-Front.is)

pub returns-in-Front-clause-layout : goal.returns-in-Front-clause-layout
unfolding taken
returns-in-Front-clause-layout c =
    let after : List Hole → Layout = λ holes. record {
      currents = (layout_of c.args.self.now).currents;
      chunks = (layout_of c.args.self.now).chunks;
      holes = holes;
      blocks = (layout_of c.args.self.now).blocks;
    } in
    ap after c.cut_front.ensures.holes ∙ ap (λ (s : Spot). taken c.args.need s (layout_of c.args.self.now))
    (sym c.in-Front.is)
