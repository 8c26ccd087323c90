use Rattle.std.proofs.Common.{◌≡◌, drop}
use Rattle.halo_words.specs.Grammar.{texts, is_among}
use Rattle.halo_words.specs.Reading.{names_in}
use Rattle.halo_words.proofs.reading.is_named.Given as goal

abbrev pub invariant-loop-word : goal.invariant-loop-word
invariant-loop-word l =
    is_among l.name (names_in (texts (drop l.word-index l.words))) ≡ is_among l.name (names_in (texts l.words))
