use Rattle.std.proofs.Common.{◌≡◌, ◌+◌, ◌++◌, ◌∷◌, [], refl, ap, ◌∙◌, arith}
use Rattle.affinity.specs.Near.{span, last_width}
use Rattle.affinity.proofs.Spans.{span_push}
use Rattle.affinity.proofs.ring.Ring.enter.Goals as goal

pub drop_far-self-inside-requires : goal.drop_far-self-inside-requires
drop_far-self-inside-requires c =
    let items : c.push_back_reserved.new.self.items ≡ c.self.inside.entries.items ++ (c.args.entry ∷ []) =
    rw (c.push_back_reserved.ensures.items, c.reserve.ensures.items) refl in
    let spans : span c.push_back_reserved.new.self.items
    ≡ span c.self.inside.entries.items + last_width c.self.inside.entries.items =
    rw items (span_push c.self.inside.entries.items c.args.entry) in
    let width : c.from.result ≡ last_width c.self.inside.entries.items =
    c.from.ensures ∙ (c.width_at_end.ensures ∙ ap last_width c.reserve.ensures.items) in
    omega (arith, spans, width, c.self.invariant.0)
