use Rattle.std.proofs.Common.{◌≡◌, ◌+◌, ◌++◌, length, take}
use Rattle.text_fields.specs.Writing.{hex8}
use Rattle.endings.proofs.parts.push_address.Given as goal

abbrev pub invariant-loop-digit : goal.invariant-loop-digit
invariant-loop-digit l =
    (l.line.bytes ≡ l.initial.line.bytes ++ take l.digit-index (hex8 l.word))
    × (length l.line.bytes ≡ length l.initial.line.bytes + l.digit-index)
