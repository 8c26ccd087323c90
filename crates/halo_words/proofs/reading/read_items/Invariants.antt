use Rattle.std.proofs.Common.{◌≡◌, [], take, true, Some, option_map}
use Rattle.halo_words.specs.Table.{choice_of, shape_of}
use Rattle.halo_words.specs.Sound.{is_short_option}
use Rattle.halo_words.specs.Grammar.{texts}
use Rattle.halo_words.specs.Reading.{idle, names_in, read_on, reading_of}
use Rattle.halo_words.proofs.reading.read_items.Given as goal

abbrev pub invariant-loop-at : goal.invariant-loop-at
invariant-loop-at l = record {
  read : read_on (shape_of l.form) (idle [] 0) (take l.at (texts l.words)) ≡ Some
      (reading_of (names_in (take l.at (texts l.words))) l.read);
  waits : is_short_option (option_map choice_of l.read.waiting) ≡ true;
}
