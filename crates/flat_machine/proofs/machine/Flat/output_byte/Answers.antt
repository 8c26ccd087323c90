use Rattle.std.proofs.Common.{◌+◌, ◌≤◌, ◌∙◌, length, arith, ap, sym}
use Rattle.std.specs.Prelude.{is_some, slice_index}
use Rattle.flat_machine.proofs.Buffers.{first_of, some_is, written_part}
use Rattle.flat_machine.proofs.machine.Flat.output_byte.Goals as goal

pub copies-requires : goal.copies-requires
copies-requires c =
    let le : c.args.i + 1 ≤ length c.args.self.now.written = omega arith in
    ap (λ o. is_some o) (written_part _ _ _ _ _ c.self.view_is c.self.invariant le)

pub returns : goal.returns
returns c =
    let le : c.args.i + 1 ≤ length c.args.self.now.written = omega arith in
    let part = some_is (sym c.copies.ensures ∙ written_part _ _ _ _ _ c.self.view_is c.self.invariant le) in
    ap (λ bs. slice_index bs 0) part ∙ first_of _ _ c.requires
