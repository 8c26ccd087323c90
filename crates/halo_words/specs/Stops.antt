-- What stops the reading of a line.
use Rattle.std.specs.Prelude.{ℕ, List}
use Rattle.halo_words.specs.declared.values.Stop.{Stop}
use Rattle.halo_words.specs.declared.values.Stop.TheVariants.{Usage, Memory}
use Rattle.halo_words.specs.Table.{the_table}
use Rattle.halo_words.specs.Grammar.{IsLine, IsFirstWrong}

-- the first wrong word; or memory was wanting for a line
abbrev pub StopsFor : List (List ℕ) → Stop → Type 0
StopsFor words (Usage place) = IsFirstWrong the_table words place
StopsFor words Memory = IsLine the_table words
