use Rattle.std.proofs.Common.{◌-◌, ◌∙◌, sym, arith}
use Rattle.std.proofs.lemmas.List.{get_or_read}
use Rattle.place_spec.specs.declared.parts.Hole.{Hole}
use Rattle.place_model.proofs.HoleEdits.{around_of, TouchesBelow, TouchesAbove, yes, no, longer, alone_is, above_is}
use Rattle.place_model.proofs.HoleEdits.{below_is, both_is}
use Rattle.place_model.proofs.holes.add_hole.Goals as goal

abbrev none : Hole
none = record { start = 0; length = 0 }

pub insert_hole-requires-clause-room : goal.insert_hole-requires-clause-room
insert_hole-requires-clause-room c =
    let h = c.args.hole in let xs = c.args.holes.now.items in let n = c.holes_below-at.result in
    let a = around_of h xs c.as_slice.result.now n c.as_slice.ensures.value c.holes_below-at.ensures.bound
    c.holes_below-at.ensures.below
    c.holes_below-at.ensures.above c.requires.ascending c.requires.filled c.requires.apart in
    let b = no (λ ys. TouchesBelow h ys n) xs c.as_slice-2.result.now c.as_slice-2.ensures.value
    c.in-false-false.ensures in
    let o = no (λ ys. TouchesAbove h ys n) xs c.as_slice-3.result.now c.as_slice-3.ensures.value
    c.in-false-false.ensures' in
    longer h xs n _ a b o c.requires.room

pub returns-in-false-false-clause-holes : goal.returns-in-false-false-clause-holes
returns-in-false-false-clause-holes c =
    let h = c.args.hole in let xs = c.args.holes.now.items in let n = c.holes_below-at.result in
    let a = around_of h xs c.as_slice.result.now n c.as_slice.ensures.value c.holes_below-at.ensures.bound
    c.holes_below-at.ensures.below
    c.holes_below-at.ensures.above c.requires.ascending c.requires.filled c.requires.apart in
    let b = no (λ ys. TouchesBelow h ys n) xs c.as_slice-2.result.now c.as_slice-2.ensures.value
    c.in-false-false.ensures in
    let o = no (λ ys. TouchesAbove h ys n) xs c.as_slice-3.result.now c.as_slice-3.ensures.value
    c.in-false-false.ensures' in
    c.insert_hole.ensures.holes ∙ sym (alone_is h xs n a b o)

pub returns-in-false-true-clause-holes : goal.returns-in-false-true-clause-holes
returns-in-false-true-clause-holes c =
    let h = c.args.hole in let xs = c.args.holes.now.items in let n = c.holes_below-at.result in
    let a = around_of h xs c.as_slice.result.now n c.as_slice.ensures.value c.holes_below-at.ensures.bound
    c.holes_below-at.ensures.below
    c.holes_below-at.ensures.above c.requires.ascending c.requires.filled c.requires.apart in
    let b = no (λ ys. TouchesBelow h ys n) xs c.as_slice-2.result.now c.as_slice-2.ensures.value
    c.in-false-true.ensures in
    let o = yes (λ ys. TouchesAbove h ys n) xs c.as_slice-3.result.now c.as_slice-3.ensures.value
    c.in-false-true.ensures' in
    above_is h c.index.result.now xs n a b o (get_or_read xs n c.index.result.now o.0 c.index.ensures none)

pub returns-in-true-false-clause-holes : goal.returns-in-true-false-clause-holes
returns-in-true-false-clause-holes c =
    let h = c.args.hole in let xs = c.args.holes.now.items in let n = c.holes_below-at.result in
    let a = around_of h xs c.as_slice.result.now n c.as_slice.ensures.value c.holes_below-at.ensures.bound
    c.holes_below-at.ensures.below
    c.holes_below-at.ensures.above c.requires.ascending c.requires.filled c.requires.apart in
    let b = yes (λ ys. TouchesBelow h ys n) xs c.as_slice-2.result.now c.as_slice-2.ensures.value
    c.in-true-false.ensures in
    let o = no (λ ys. TouchesAbove h ys n) xs c.as_slice-3.result.now c.as_slice-3.ensures.value
    c.in-true-false.ensures' in
    below_is h c.index-first-in-true-false.result.now xs n a b o
    (get_or_read xs (n - 1) c.index-first-in-true-false.result.now
    (let p = b.0 in let q = a.bound in omega (arith, p, q)) c.index-first-in-true-false.ensures none)

pub returns-in-true-true-clause-holes : goal.returns-in-true-true-clause-holes
returns-in-true-true-clause-holes c =
    let h = c.args.hole in let xs = c.args.holes.now.items in let n = c.holes_below-at.result in
    let a = around_of h xs c.as_slice.result.now n c.as_slice.ensures.value c.holes_below-at.ensures.bound
    c.holes_below-at.ensures.below
    c.holes_below-at.ensures.above c.requires.ascending c.requires.filled c.requires.apart in
    let b = yes (λ ys. TouchesBelow h ys n) xs c.as_slice-2.result.now c.as_slice-2.ensures.value
    c.in-true-true.ensures in
    let o = yes (λ ys. TouchesAbove h ys n) xs c.as_slice-3.result.now c.as_slice-3.ensures.value
    c.in-true-true.ensures' in
    rw c.remove-last.ensures.items
    (both_is h c.index-first.result.now c.remove-last.result xs n a b o
    (get_or_read xs (n - 1) c.index-first.result.now (let p = b.0 in let q = a.bound in omega (arith, p, q))
    c.index-first.ensures none)
    (get_or_read xs n c.remove-last.result o.0 c.remove-last.ensures.value none))
