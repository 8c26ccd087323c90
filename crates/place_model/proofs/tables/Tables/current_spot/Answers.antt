use Rattle.std.proofs.Common.{◌≡◌, ap, sym, ◌∙◌, arith}
use Rattle.std.specs.Prelude.{Some, None}
use Rattle.std.proofs.lemmas.List.{get_or_read}
use Rattle.place_spec.specs.Layout.{current_of, idle_chunk}
use Rattle.place_model.specs.Tables.{layout_of}
use Rattle.place_model.proofs.TableReads.{size_small}
use Rattle.place_model.proofs.tables.Tables.current_spot.Goals as goal

pub index-chunk-requires : goal.index-chunk-requires
index-chunk-requires c =
    let s = c.requires.sound in let g = c.requires.group in
    let e : current_of (layout_of c.args.self.now) c.args.group ≡ Some c.in-Some.number =
    sym (get_or_read c.args.self.now.currents.items c.args.group c.index.result.now
    (let l = s.groups in omega (arith, l, g)) c.index.ensures None) ∙ c.in-Some.is in
    let w = (s.currents c.args.group c.in-Some.number e).0 in let n = s.chunks in let o = c.args.self.now.chunks.ok.0 in
    omega (arith, w, n, o)

pub overflow_add-chunk : goal.overflow_add-chunk
overflow_add-chunk c =
    let s = c.requires.sound in let g = c.requires.group in
    let e : current_of (layout_of c.args.self.now) c.args.group ≡ Some c.in-Some.number =
    sym (get_or_read c.args.self.now.currents.items c.args.group c.index.result.now
    (let l = s.groups in omega (arith, l, g)) c.index.ensures None) ∙ c.in-Some.is in
    let w = (s.currents c.args.group c.in-Some.number e).0 in let n = s.chunks in
    let r = ap (λ x. x.bump) (get_or_read c.args.self.now.chunks.items c.in-Some.number c.index-chunk.result.now
    (omega (arith, w, n)) c.index-chunk.ensures idle_chunk) in
    let b = s.bumps c.in-Some.number w in let d = c.requires.need in let z =
    size_small c.args.area c.requires.log_chunk in
    omega (arith, r, b, d, z)
