-- Two parts of a text, with more put before the first.
use Rattle.std.proofs.Common.{List, ◌++◌, ℕ, Option, Some, None}

-- the parts, with a front put before the first
abbrev pub with_front : List ℕ → Option (List ℕ × List ℕ) → Option (List ℕ × List ℕ)
with_front front None = None
with_front front (Some parts) = Some (front ++ parts.0, parts.1)
