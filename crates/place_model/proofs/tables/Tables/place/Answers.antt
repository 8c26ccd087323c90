use Rattle.std.proofs.Common.{arith}
use Rattle.place_spec.proofs.Spots.{chosen}
use Rattle.place_spec.proofs.SoundParts.{parts}
use Rattle.place_model.specs.Tables.{layout_of}
use Rattle.place_model.proofs.Steps.{free_of, new_block}
use Rattle.place_model.proofs.TableSteps.{placed_layout}
use Rattle.place_model.proofs.tables.Tables.place.Goals as goal

pub take-granule-requires-clause-free : goal.take-granule-requires-clause-free
take-granule-requires-clause-free c =
    let s = layout_of c.args.self.now in
    free_of c.args.area s c.args.need c.args.group c.args.spot (parts c.args.area s c.requires.sound) c.requires.group
    (chosen c.args.area s c.args.need c.args.group c.args.spot c.requires.spot)

pub index_mut-requires : goal.index_mut-requires
index_mut-requires c =
    let s = layout_of c.args.self.now in
    let n = new_block c.args.area s c.args.need c.args.group c.args.spot (parts c.args.area s c.requires.sound)
    c.requires.need c.requires.group c.requires.spot in
    let i = n.inside in let g = c.take-granule.ensures.granule in let k = c.take-granule.ensures.kept.starts in
    let l = c.requires.starts in let p = c.requires.need in let o = c.take-granule.new.self.starts.ok.0 in
    omega (arith, i, g, k, l, p, o)

pub returns-clause-layout : goal.returns-clause-layout
returns-clause-layout c =
    let s = layout_of c.args.self.now in
    let n = new_block c.args.area s c.args.need c.args.group c.args.spot (parts c.args.area s c.requires.sound)
    c.requires.need c.requires.group c.requires.spot in
    let i = n.inside in let g = c.take-granule.ensures.granule in let k = c.take-granule.ensures.kept.starts in
    let l = c.requires.starts in let p = c.requires.need in
    placed_layout c.args.area c.take-granule.new.self s c.args.need c.args.group c.args.spot c.take-granule.result g
    c.take-granule.ensures.layout
    (omega (arith, i, g, k, l, p)) n p
