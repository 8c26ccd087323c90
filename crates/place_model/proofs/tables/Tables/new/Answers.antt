use Rattle.std.proofs.Common.{ap, ◌∙◌, rules, refl}
use Rattle.place_model.specs.Tables.{blocks_from}
use Rattle.place_model.proofs.TableReads.{no_blocks}
use Rattle.place_model.proofs.tables.Tables.new.Goals as goal

pub returns-clause-layout : goal.returns-clause-layout
returns-clause-layout c =
    let a = c.in_ok-currents.ensures.items_if_clones_equal (search rules) in
    let b = c.in_ok-chunks.ensures.items_if_clones_equal (search rules) in
    let d = c.in_ok-starts.ensures.items_if_clones_equal (search rules) in
    let e = ap (blocks_from 0) d ∙ no_blocks 0 c.granules_of.result in
    let h = c.in_ok-holes.ensures.holes in
    rw (a, b, h, e) refl
