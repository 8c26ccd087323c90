use Rattle.text_fields.proofs.Numbers.{of_takes, of_again, number_takes, number_again}
use Rattle.text_fields.proofs.Leading.{leading_takes, leading_again}
use Rattle.text_fields.proofs.Hexadecimals.{hex_takes, hex_again}
use Rattle.text_fields.proofs.laws.numbers_are_read_as_they_are_written.Goals as goal

pub returns : goal.returns
returns c = record {
  word = λ max n word small. (
    λ found. (let of = of_takes max n word small found in (of.0, of.1)),
    λ is. rw (is.1) (of_again max n is.0 small),
  );
  field = λ end max n bytes rest low small.
      (number_takes end max n bytes rest small, λ is. rw (is.1) (number_again end max n rest low is.0 small));
  leading = λ max n bytes rest small. (
    leading_takes max n bytes rest small,
    λ is. rw (is.1) (leading_again max n rest is.0 small is.2),
  );
  hexadecimal = λ n bytes rest. (hex_takes bytes n rest, λ is. rw (is.1) (hex_again n rest is.0));
}
