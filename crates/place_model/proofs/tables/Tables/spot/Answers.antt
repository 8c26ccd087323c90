use Rattle.std.proofs.Common.{sym, ◌∙◌, ap}
use Rattle.place_spec.specs.Place.{spot_of}
use Rattle.place_model.specs.Tables.{layout_of}
use Rattle.place_model.proofs.TableReads.{spot_none}
use Rattle.place_model.proofs.tables.Tables.spot.Goals as goal

pub returns-in_default : goal.returns-in_default
returns-in_default c =
    c.front_spot.ensures
    ∙ (spot_none c.args.area (layout_of c.args.self.now) c.args.need
    ∙ ap (spot_of c.args.area (layout_of c.args.self.now) c.args.need) (sym c.in_default.is))
