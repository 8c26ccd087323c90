-- Parts of a file or of memory, each from its start to before its end, and lists of them in which a
-- number is looked up.
use Rattle.std.specs.Prelude.{◌≡◌, ℕ, ◌+◌, ◌&&◌, Bool, true, List, [], ◌∷◌, All, if◌then◌else◌, max, nat_le, nat_lt}
use Rattle.std.specs.List.{list_any}
use Rattle.std.specs.List.Sorted.{IsNonDecreasingBy}
use Rattle.exec_image.specs.declared.parts.Part.{Part}

-- a part has a number in common with those from one to before another
abbrev pub is_meeting : (from to : ℕ) → Part → Bool
is_meeting from to p = nat_lt p.start to && nat_lt from p.end

-- the first part lies in the second
abbrev pub is_within : Part → Part → Bool
is_within p q = nat_le q.start p.start && nat_le p.end q.end

-- the parts of one list, in ascending order, stand for those of another: each lies in one of the other
pub record StandsFor (parts sorted : List Part) : Type 0 where
  pub starts : IsNonDecreasingBy (λ p. p.start) sorted
  pub ends : IsNonDecreasingBy (λ p. p.end) sorted
  pub sound : All (λ p. list_any (is_within p) parts ≡ true) sorted
  pub whole : All (λ p. list_any (is_within p) sorted ≡ true) parts

-- the parts of given offsets and sizes; empty ones are left out
unfoldable pub parts_of : List (ℕ × ℕ) → List Part
parts_of [] = []
parts_of (d ∷ ds) = if nat_lt 0 d.1 then record { start = d.0; end = d.0 + d.1 } ∷ parts_of ds else parts_of ds

-- the parts, each with the greatest end so far
abbrev pub running : ℕ → List Part → List Part
running end [] = []
running end (p ∷ ps) = record { start = p.start; end = max end p.end } ∷ running (max end p.end) ps
