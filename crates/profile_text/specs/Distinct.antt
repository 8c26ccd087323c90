-- Whether no number stands twice in a list.
use Rattle.std.specs.Prelude.{ℕ, ◌==◌, ◌&&◌, not, Bool, true, List, [], ◌∷◌}
use Rattle.std.specs.List.{list_all}

-- no number stands twice
abbrev pub are_distinct : List ℕ → Bool
are_distinct [] = true
are_distinct (x ∷ xs) = list_all (λ y. not (x == y)) xs && are_distinct xs

-- each number differs from the next
abbrev pub differ_in_turn : List ℕ → Bool
differ_in_turn [] = true
differ_in_turn (x ∷ []) = true
differ_in_turn (x ∷ y ∷ xs) = not (x == y) && differ_in_turn (y ∷ xs)
