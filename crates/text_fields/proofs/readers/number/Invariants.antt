use Rattle.std.proofs.Common.{◌≡◌, ◌≤◌, drop}
use Rattle.text_fields.specs.Reading.{number_on}
use Rattle.text_fields.proofs.readers.number.Given as goal

abbrev pub invariant-loop-digit : goal.invariant-loop-digit
invariant-loop-digit l =
    (l.n ≤ l.max) × (number_on l.max l.n (drop l.digit-index l.word) ≡ number_on l.max 0 l.word)
