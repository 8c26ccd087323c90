use Rattle.std.proofs.Common.{◌≡◌, ◌<◌, ◌-◌, [], true, false, Some, None, length, ap, refl, arith}
use Rattle.heap_trace.proofs.Frames.{place_within, put_back, taken_out, left_alone}
use Rattle.heap_trace.proofs.stack.Stack.pop.Goals as goal

pub overflow_sub-len : goal.overflow_sub-len
overflow_sub-len c =
    let near : c.in_ok-site.field-0.site.near ≡ true = cc in
    let at : c.in_ok-site.field-0.place ≡ Some c.in-Some.place = cc in
    let low : c.in-Some.place < length c.self.inside.order.keys =
    place_within _ _ c.in_ok-site.field-0 _ [] _ c.self.inside.returns c.self.invariant
    c.in_ok-site.ensures.items _ near at in
    omega (arith, low, c.len.ensures.len)

pub move_index-requires-clause-from_in_bounds : goal.move_index-requires-clause-from_in_bounds
move_index-requires-clause-from_in_bounds c =
    let near : c.in_ok-site.field-0.site.near ≡ true = cc in
    let at : c.in_ok-site.field-0.place ≡ Some c.in-Some.place = cc in
    let low : c.in-Some.place < length c.self.inside.order.keys =
    place_within _ _ c.in_ok-site.field-0 _ [] _ c.self.inside.returns c.self.invariant
    c.in_ok-site.ensures.items _ near at in
    omega (arith, low, c.len.ensures.len)

pub move_index-requires-clause-to_in_bounds : goal.move_index-requires-clause-to_in_bounds
move_index-requires-clause-to_in_bounds c =
    let near : c.in_ok-site.field-0.site.near ≡ true = cc in
    let at : c.in_ok-site.field-0.place ≡ Some c.in-Some.place = cc in
    place_within _ _ c.in_ok-site.field-0 _ [] _ c.self.inside.returns c.self.invariant
    c.in_ok-site.ensures.items _ near at

pub invariant_of-self-in-Some : goal.invariant_of-self-in-Some
invariant_of-self-in-Some c =
    let near : c.in_ok-site.field-0.site.near ≡ true = cc in
    let at : c.in_ok-site.field-0.place ≡ Some c.in-Some.place = cc in
    put_back _ _ c.in_ok-site.field-0 _ _ _ _ c.self.invariant c.in_ok-site.ensures.items c.in-Some.place _ near at
    (ap (λ n. n - 1) c.len.ensures.len) c.move_index.ensures.keys c.lower.ensures

pub invariant_of-self-in-None : goal.invariant_of-self-in-None
invariant_of-self-in-None c =
    let near : c.in_ok-site.field-0.site.near ≡ true = cc in
    let at : c.in_ok-site.field-0.place ≡ None = cc in
    taken_out _ _ c.in_ok-site.field-0 _ _ _ _ c.self.invariant c.in_ok-site.ensures.items c.pop-in-None.result near at
    c.pop-in-None.ensures.keys c.pop-in-None.ensures.found.1 c.lower.ensures

pub invariant_of-self-else-site : goal.invariant_of-self-else-site
invariant_of-self-else-site c =
    let far : c.in_ok-site.field-0.site.near ≡ false = cc in
    left_alone _ _ c.in_ok-site.field-0 _ _ _ _ c.self.invariant c.in_ok-site.ensures.items far refl c.lower.ensures
