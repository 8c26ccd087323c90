use Rattle.std.proofs.Common.{◌≡◌, ℕ, List, length, slice_set, slice_index_or, [], ap, sym, ◌∙◌, arith}
use Rattle.std.specs.Vec.{with_items}
use Rattle.std.proofs.lemmas.List.{length-set, with_items_is}
use Rattle.sym_cells.specs.Memory.{overlaid}
use Rattle.sym_memory.proofs.BlockLaws.{alive, copied_kept, copied_held}
use Rattle.sym_memory.proofs.blocks.Blocks.copy_block.Goals as goal

pub copy_in-requires-clause-from : goal.copy_in-requires-clause-from
copy_in-requires-clause-from c =
    let r = alive c.self.inside.live c.self.inside.buffers.items c.args.self.now c.args.from c.self.invariant
    c.self.view_is c.requires.from in
    let index = r.index in
    let same = ap length c.deref_mut.ensures.value in
    omega (arith, index, same)

pub copy_in-requires-clause-to : goal.copy_in-requires-clause-to
copy_in-requires-clause-to c =
    let r = alive c.self.inside.live c.self.inside.buffers.items c.args.self.now c.args.to c.self.invariant
    c.self.view_is c.requires.to in
    let index = r.index in
    let same = ap length c.deref_mut.ensures.value in
    omega (arith, index, same)

same : {A : Type 0} (xs ys zs : List A) (n i : ℕ) (y : A) → zs ≡ slice_set ys i y → ys ≡ xs → n ≡ length xs
    → length zs ≡ n
same xs ys zs n i y e f g = ap length e ∙ length-set ys i y ∙ ap length f ∙ sym g

pub invariant_of-self : goal.invariant_of-self
invariant_of-self c =
    let refilled = with_items_is c.self.inside.buffers c.copy_in.new.buffers
    (same c.self.inside.buffers.items _ _ c.self.inside.buffers.len c.args.to _ c.copy_in.ensures
    c.deref_mut.ensures.value c.self.inside.buffers.ok.0) in
    copied_kept c.self.inside.live c.self.inside.buffers.items
    (with_items c.self.inside.buffers c.copy_in.new.buffers).items
    c.args.from c.args.to c.self.invariant
    (refilled ∙ c.copy_in.ensures ∙ ap (λ bs. slice_set bs c.args.to
    (overlaid (slice_index_or bs c.args.from []) (slice_index_or bs c.args.to []))) c.deref_mut.ensures.value)

pub returns : goal.returns
returns c =
    let refilled = with_items_is c.self.inside.buffers c.copy_in.new.buffers
    (same c.self.inside.buffers.items _ _ c.self.inside.buffers.len c.args.to _ c.copy_in.ensures
    c.deref_mut.ensures.value c.self.inside.buffers.ok.0) in
    copied_held c.self.inside.live c.self.inside.buffers.items
    (with_items c.self.inside.buffers c.copy_in.new.buffers).items
    c.args.from c.args.to c.args.self.now c.self.invariant
    (alive c.self.inside.live c.self.inside.buffers.items c.args.self.now c.args.from c.self.invariant c.self.view_is
    c.requires.from)
    (alive c.self.inside.live c.self.inside.buffers.items c.args.self.now c.args.to c.self.invariant c.self.view_is
    c.requires.to)
    (refilled ∙ c.copy_in.ensures ∙ ap (λ bs. slice_set bs c.args.to
    (overlaid (slice_index_or bs c.args.from []) (slice_index_or bs c.args.to []))) c.deref_mut.ensures.value)
    c.self.view_is
