use Rattle.std.proofs.Common.{refl}
use Rattle.place_spec.specs.Place.{granule_of, taken}
use Rattle.place_model.proofs.tables.Tables.take_fresh.Goals as goal

pub returns-clause-granule : goal.returns-clause-granule
unfolding granule_of
returns-clause-granule c = c.front_of_chunk.ensures

pub returns-clause-layout : goal.returns-clause-layout
unfolding taken
returns-clause-layout c = refl
