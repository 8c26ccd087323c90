use Rattle.std.proofs.Common.{◌≡◌, drop}
use Rattle.halo_words.specs.Grammar.{texts}
use Rattle.halo_words.specs.Reading.{first_place}
use Rattle.halo_words.proofs.places.first_given.Given as goal

abbrev pub invariant-loop-at : goal.invariant-loop-at
invariant-loop-at l =
    first_place l.name l.at (drop l.at (texts l.words)) ≡ first_place l.name 1 (drop 1 (texts l.words))
