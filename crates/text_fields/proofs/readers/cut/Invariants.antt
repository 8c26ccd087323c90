use Rattle.std.proofs.Common.{◌≡◌, take, drop}
use Rattle.text_fields.specs.Reading.{cut_at}
use Rattle.text_fields.proofs.Parts.{with_front}
use Rattle.text_fields.proofs.readers.cut.Given as goal

abbrev pub invariant-loop-at : goal.invariant-loop-at
invariant-loop-at l = with_front (take l.at l.bytes) (cut_at l.end (drop l.at l.bytes)) ≡ cut_at l.end l.bytes
