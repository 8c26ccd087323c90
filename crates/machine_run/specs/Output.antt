-- Bytes on their way to a sink, through a buffer.
use Rattle.std.specs.Prelude.{◌≡◌, ℕ, List, ◌++◌, Option}
use Rattle.halo_outside.specs.Seen.{Appends}

-- bytes were added behind the buffered ones, of which some went to the sink
abbrev pub Passes : Option (List ℕ) → Option (List ℕ) → List ℕ → List ℕ → List ℕ → Type 0
Passes told told' pending pending' bytes =
    (sent : List ℕ) × Appends told told' sent × (sent ++ pending' ≡ pending ++ bytes)
