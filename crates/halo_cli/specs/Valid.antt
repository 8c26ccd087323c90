-- The lines of words that are taken: lines of the table whose policy is there and whose area is small enough.
use Rattle.std.specs.Prelude.{◌≡◌, ℕ, ◌<◌, ◌≤◌, ◌⊎◌, true, false, List, length, unwrap_or, codes}
use Rattle.plan_core.specs.Plan.{granules}
use Rattle.halo_words.specs.Table.{the_table}
use Rattle.halo_words.specs.Grammar.{Asked, AsksFor, IsFirstWrong, value_place}
use Rattle.halo_cli.specs.Options.{area_in, policy_of, has_policy}

-- what a line must give beside what the table asks: a policy that is there, and an area of at most 1048576 granules
pub record Passes (names : List (List ℕ)) (asked : Asked) : Type 0 where
  pub policy : has_policy names (policy_of asked) ≡ true
  pub area : granules (area_in asked.given) ≤ 1048576

-- the words are a line that is taken and asks for this
pub record Asks (names : List (List ℕ)) (words : List (List ℕ)) (asked : Asked) : Type 0 where
  pub line : AsksFor the_table words asked
  pub passes : Passes names asked

-- the words are a line that is taken
abbrev pub IsValid : List (List ℕ) → List (List ℕ) → Type 0
IsValid names words = (asked : Asked) × Asks names words asked

-- a line of the table isn't taken: its policy isn't there, and the place is that of the policy's name, or the number
-- of words where the name is the default; or its area is too large, and the place is the number of words
abbrev pub IsLastWrong : List (List ℕ) → (words : List (List ℕ)) → (asked : Asked) → AsksFor the_table words asked → ℕ
    → Type 0
IsLastWrong names words asked asks place =
    ((has_policy names (policy_of asked) ≡ false)
    × (place ≡ unwrap_or (value_place (codes "policy") 1 asks.items) (length words)))
    ⊎ ((has_policy names (policy_of asked) ≡ true) × (1048576 < granules (area_in asked.given))
    × (place ≡ length words))

-- the first wrong word: of the grammar, and then of a line of the table that isn't taken
abbrev pub IsWrongAt : List (List ℕ) → List (List ℕ) → ℕ → Type 0
IsWrongAt names words place = IsFirstWrong the_table words place
    ⊎ ((asked : Asked) × (asks : AsksFor the_table words asked) × IsLastWrong names words asked asks place)
