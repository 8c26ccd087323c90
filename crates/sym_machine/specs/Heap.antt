-- The second words of heap functions.
use Rattle.std.specs.Prelude.{ℕ, ◌+◌, ◌==◌, Bool, false, Option, Some, None}

-- an address is that of the word behind an entry
abbrev pub is_behind : ℕ → Option ℕ → Bool
is_behind a (Some e) = e + 4 == a
is_behind a None = false
