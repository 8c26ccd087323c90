use Rattle.std.proofs.Common.{◌+◌, ap, ◌∙◌}
use Rattle.std.specs.Prelude.{slice_set}
use Rattle.std.proofs.lemmas.List.{get_or_read}
use Rattle.place_spec.specs.declared.parts.Chunk.{Chunk}
use Rattle.place_spec.specs.Layout.{Layout, idle_chunk, chunk_front}
use Rattle.place_spec.specs.Place.{granule_of, taken}
use Rattle.place_model.specs.Tables.{layout_of}
use Rattle.place_model.proofs.tables.Tables.take_current.Goals as goal

pub returns-clause-granule : goal.returns-clause-granule
unfolding granule_of
returns-clause-granule c =
    let r = get_or_read c.args.self.now.chunks.items c.args.number c.index-chunk.result.now c.requires.free.0
    c.index-chunk.ensures idle_chunk in
    ap (λ x. x + c.index-chunk.result.now.bump) c.front_of_chunk.ensures
    ∙ ap (λ (x : Chunk). chunk_front c.args.area c.args.number + x.bump) r

pub returns-clause-layout : goal.returns-clause-layout
unfolding taken
returns-clause-layout c =
    let r = get_or_read c.args.self.now.chunks.items c.args.number c.index-chunk.result.now c.requires.free.0
    c.index-chunk.ensures idle_chunk in
    let after : Chunk → Layout = λ x. record {
      currents = (layout_of c.args.self.now).currents;
      chunks = slice_set c.args.self.now.chunks.items c.args.number
          (record { owner = x.owner; bump = x.bump + c.args.need; live = x.live + 1 });
      holes = (layout_of c.args.self.now).holes;
      blocks = (layout_of c.args.self.now).blocks;
    } in
    ap after r
