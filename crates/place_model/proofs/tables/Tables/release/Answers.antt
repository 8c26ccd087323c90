use Rattle.std.proofs.Common.{arith}
use Rattle.place_spec.proofs.SoundParts.{parts}
use Rattle.place_spec.proofs.Leaving.{stands}
use Rattle.place_model.specs.Tables.{layout_of}
use Rattle.place_model.proofs.Steps.{may_add}
use Rattle.place_model.proofs.TableSteps.{block_of, starts_there, found_there, released_low, released_high}
use Rattle.place_model.proofs.tables.Tables.release.Goals as goal

pub add_hole-requires-clause-apart : goal.add_hole-requires-clause-apart
add_hole-requires-clause-apart c =
    let s = layout_of c.args.self.now in
    let f = found_there c.args.self.now c.args.granule c.index-start.result.now c.requires.block
    c.index-start.ensures in
    (may_add c.args.area s c.args.granule (block_of c.args.granule c.index-start.result.now)
    (parts c.args.area s c.requires.sound) f c.if-granule-area.true).apart

pub add_hole-requires-clause-hole : goal.add_hole-requires-clause-hole
add_hole-requires-clause-hole c =
    let s = layout_of c.args.self.now in
    let f = found_there c.args.self.now c.args.granule c.index-start.result.now c.requires.block
    c.index-start.ensures in
    let p = parts c.args.area s c.requires.sound in
    let e = (may_add c.args.area s c.args.granule (block_of c.args.granule c.index-start.result.now) p f
    c.if-granule-area.true).end in
    let n = (stands c.args.area s p c.args.granule (block_of c.args.granule c.index-start.result.now) f).filled in
    let g = c.requires.granules in (n, omega (arith, e, g))

pub add_hole-requires-clause-room : goal.add_hole-requires-clause-room
add_hole-requires-clause-room c =
    let s = layout_of c.args.self.now in
    let f = found_there c.args.self.now c.args.granule c.index-start.result.now c.requires.block
    c.index-start.ensures in
    let m = (may_add c.args.area s c.args.granule (block_of c.args.granule c.index-start.result.now)
    (parts c.args.area s c.requires.sound) f c.if-granule-area.true).few_holes in
    let r = c.requires.room in omega (arith, m, r)

pub leave-requires-clause-owner : goal.leave-requires-clause-owner
leave-requires-clause-owner c = λ g e.
    let o = c.requires.sound.owners _ g e in let n = c.requires.sound.groups in omega (arith, o, n)

pub returns-then-granule-area-clause-layout : goal.returns-then-granule-area-clause-layout
returns-then-granule-area-clause-layout c =
    let f = found_there c.args.self.now c.args.granule c.index-start.result.now c.requires.block
    c.index-start.ensures in
    released_low c.args.area c.args.self.now c.args.granule c.index-start.result.now c.add_hole.new.holes.items
    (starts_there c.args.self.now c.args.granule c.requires.block).0 f c.if-granule-area.true c.add_hole.ensures.holes

pub returns-else-granule-area-clause-layout : goal.returns-else-granule-area-clause-layout
returns-else-granule-area-clause-layout c =
    let f = found_there c.args.self.now c.args.granule c.index-start.result.now c.requires.block
    c.index-start.ensures in
    rw (c.leave.ensures.currents, c.leave.ensures.holes, c.leave.ensures.starts)
    (released_high c.args.area c.args.self.now c.args.granule c.index-start.result.now c.leave.new.self.chunks.items
    (starts_there c.args.self.now c.args.granule c.requires.block).0 f c.if-granule-area.false c.leave.ensures.chunks)
