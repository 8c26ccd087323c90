use Rattle.std.proofs.Common.{sym, ◌∙◌, arith}
use Rattle.place_model.specs.Tables.{layout_of}
use Rattle.place_model.proofs.TableReads.{spot_large, spot_chunk, spot_front}
use Rattle.place_model.proofs.tables.Tables.group_spot.Goals as goal

pub returns-then-need-granules_of_chunk : goal.returns-then-need-granules_of_chunk
returns-then-need-granules_of_chunk c =
    c.front_spot.ensures
    ∙ spot_large c.args.area (layout_of c.args.self.now) c.args.need c.args.group
    (let l = c.if-need-granules_of_chunk.true in let e = c.granules_of_chunk.ensures in omega (arith, l, e))

pub returns-in-Some : goal.returns-in-Some
returns-in-Some c =
    spot_chunk c.args.area (layout_of c.args.self.now) c.args.need c.args.group c.in-Some.spot
    (let l = c.if-need-granules_of_chunk.false in let e = c.granules_of_chunk.ensures in omega (arith, l, e))
    (sym c.chunk_spot.ensures ∙ c.in-Some.is)

pub returns-in-None : goal.returns-in-None
returns-in-None c =
    c.front_spot-in-None.ensures
    ∙ spot_front c.args.area (layout_of c.args.self.now) c.args.need c.args.group
    (let l = c.if-need-granules_of_chunk.false in let e = c.granules_of_chunk.ensures in omega (arith, l, e))
    (sym c.chunk_spot.ensures ∙ c.in-None.is)
