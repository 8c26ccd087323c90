use Rattle.std.proofs.Common.{◌≡◌, ◌++◌, take, drop}
use Rattle.text_fields.specs.Reading.{digits_at}
use Rattle.text_fields.proofs.readers.split_digits.Given as goal

abbrev pub invariant-loop-at : goal.invariant-loop-at
invariant-loop-at l =
    (take l.at l.bytes ++ (digits_at (drop l.at l.bytes)).0, (digits_at (drop l.at l.bytes)).1) ≡ digits_at l.bytes
