use Rattle.std.proofs.Common.{◌∙◌, ap, sym}
use Rattle.std.specs.Prelude.{is_some}
use Rattle.flat_machine.proofs.Buffers.{some_is, written_part}
use Rattle.flat_machine.proofs.machine.Flat.copy_bytes.Goals as goal

pub copies-requires : goal.copies-requires
copies-requires c = ap (λ o. is_some o) (written_part _ _ _ _ _ c.self.view_is c.self.invariant c.requires)

pub returns : goal.returns
returns c = some_is (sym c.copies.ensures ∙ written_part _ _ _ _ _ c.self.view_is c.self.invariant c.requires)
