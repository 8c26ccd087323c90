use Rattle.flat_spec.proofs.Pieces.{bytes_from_are, bytes_from_same, fetched_same, number_low}
use Rattle.flat_spec.proofs.laws.bytes_are_read_where_they_stand.Goals as goal

pub returns : goal.returns
returns c = record {
  read = bytes_from_are;
  word = number_low;
  alike = bytes_from_same;
  run = fetched_same;
}
