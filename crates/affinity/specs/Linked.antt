-- How the notes of grants name the grants of the same context before and after them.
use Rattle.std.specs.Prelude.{◌≡◌, ℕ, ◌+◌, ◌<◌, ◌≤◌, List, length, map, slice_index, slice_index_or, All, MatchOption}
use Rattle.std.specs.Prelude.{Option}
use Rattle.affinity.specs.declared.grants.GrantNote.{GrantNote}

-- the contexts of the notes
abbrev pub contexts_in : List GrantNote → List ℕ
contexts_in notes = map (λ n. n.context) notes

-- no grant from i on and before j is of a context
abbrev pub LacksWithin : List ℕ → ℕ → ℕ → ℕ → Type 0
LacksWithin contexts context i j = (k : ℕ) → i ≤ k → k < j → slice_index contexts k ≡ context → ⊥

-- grant i is the last before grant j that is of the same context
abbrev pub IsNeighbour : List ℕ → ℕ → ℕ → Type 0
IsNeighbour contexts i j =
    (i < j) × (j < length contexts) × (slice_index contexts i ≡ slice_index contexts j)
    × LacksWithin contexts (slice_index contexts j) (i + 1) j

-- the grant before grant k of its context, or none where there is none
abbrev pub IsBefore : List ℕ → ℕ → Option ℕ → Type 0
IsBefore contexts k before =
    MatchOption before (LacksWithin contexts (slice_index contexts k) 0 k) (λ p. IsNeighbour contexts p k)

-- the grant after grant k of its context, or none where there is none
abbrev pub IsNext : List ℕ → ℕ → Option ℕ → Type 0
IsNext contexts k next =
    MatchOption next (LacksWithin contexts (slice_index contexts k) (k + 1) (length contexts))
    (λ n. IsNeighbour contexts k n)

-- the last grant of a context
abbrev pub IsLast : List ℕ → ℕ → ℕ → Type 0
IsLast contexts context last =
    (last < length contexts) × (slice_index contexts last ≡ context)
    × LacksWithin contexts context (last + 1) (length contexts)

-- the notes name the neighbours of each grant, and the last grant of each context is known
pub record IsLinked (notes : List GrantNote) (lasts : List ℕ) : Type 0 where
  pub before : (k : ℕ) (d : GrantNote) → k < length notes
      → IsBefore (contexts_in notes) k (slice_index_or notes k d).before
  pub next : (k : ℕ) (d : GrantNote) → k < length notes → IsNext (contexts_in notes) k (slice_index_or notes k d).next
  pub last : (context : ℕ) → context < length lasts → IsLast (contexts_in notes) context (slice_index lasts context)
  pub named : All (λ context. context < length lasts) (contexts_in notes)
