-- The groups that are made greedily of the kept edges: which group begins, who joins it, and when it is closed.
use Rattle.std.specs.Prelude.{◌≡◌, ◌≢◌, ◌⊎◌, ℕ, ℤ, pos, ◌<◌, ◌≤ℤ◌, ◌<ℤ◌, ◌==◌, Bool, false, List, [], ◌∷◌, ◌++◌, length}
use Rattle.std.specs.Prelude.{Contains, if◌then◌else◌}
use Rattle.std.specs.List.{list_any}
use Rattle.plan_core.specs.declared.profiles.Edge.{Edge}
use Rattle.plan_core.specs.Graphs.{EndsBefore}
use Rattle.group_policy.specs.declared.cut.Cut.{Cut}
use Rattle.grouping.specs.Weights.{is_in, cut_of, with_member}

-- a context is a member of one of the groups
abbrev pub is_taken : List (List ℕ) → ℕ → Bool
is_taken groups x = list_any (λ g. is_in g x) groups

-- both ends of an edge are in no group
abbrev pub IsFree : List (List ℕ) → Edge → Type 0
IsFree groups e = (is_taken groups e.low ≡ false) × (is_taken groups e.high ≡ false)

-- the ends of an edge, ascending; a loop has one
abbrev pub ends : Edge → List ℕ
ends e = if e.low == e.high then e.low ∷ [] else e.low ∷ e.high ∷ []

-- an edge is before another that starts a group: it is heavier, or as heavy with lower ends
abbrev pub IsHeavier : Edge → Edge → Type 0
IsHeavier e f = (f.weight < e.weight) ⊎ ((f.weight ≡ e.weight) × EndsBefore e f)

-- the heaviest edge with both ends free starts the next group
pub record Starts (edges : List Edge) (groups : List (List ℕ)) (e : Edge) : Type 0 where
  pub there : Contains edges e
  pub free : IsFree groups e
  pub heaviest : (f : Edge) → Contains edges f → IsFree groups f → f ≢ e → IsHeavier e f

-- for a rule's answers to cuts, a tolerance, a number of contexts, the kept edges and the groups made before
module _ (answers : Cut → ℤ → Type 0) (tolerance contexts : ℕ) (edges : List Edge) (groups : List (List ℕ)) where
  -- a context that is in no group made before and not in this one
  abbrev pub IsOutside : List ℕ → ℕ → Type 0
  IsOutside group x = (x < contexts) × (is_taken groups x ≡ false) × (is_in group x ≡ false)

  -- the rule may answer this of a candidate
  abbrev pub Says : List ℕ → ℕ → ℤ → Type 0
  Says group x answer = answers (cut_of edges tolerance group x) answer

  -- each context outside is given one answer; x has the greatest, and it is above 0; of equal ones the lowest joins
  pub record JoinsNext (group : List ℕ) (x : ℕ) : Type 0 where
    pub outside : IsOutside group x
    pub answer : ℤ
    pub said : Says group x answer
    pub above : pos 0 <ℤ answer
    pub greatest : (y : ℕ) → IsOutside group y → y ≢ x →
        (other : ℤ) × Says group y other × (other ≤ℤ answer) × (y < x → other <ℤ answer)

  -- each context outside is given one answer, and none is above 0
  abbrev pub IsClosed : List ℕ → Type 0
  IsClosed group = (y : ℕ) → IsOutside group y → (other : ℤ) × Says group y other × (other ≤ℤ pos 0)

  -- a group on the way: it starts with an edge, and while it has fewer than eight members contexts join it
  pub data Grown : List ℕ → Type 0 where
    started : (e : Edge) → Starts edges groups e → Grown (ends e)
    joined : (group : List ℕ) (x : ℕ) → Grown group → length group < 8 → JoinsNext group x → Grown (with_member x group)

  -- a group that is done: it is full or closed
  abbrev pub Formed : List ℕ → Type 0
  Formed group = Grown group × ((length group ≡ 8) ⊎ IsClosed group)

module _ (answers : Cut → ℤ → Type 0) (tolerance contexts : ℕ) (edges : List Edge) where
  -- groups made one after the other, at most 16
  pub data Begun : List (List ℕ) → Type 0 where
    none : Begun []
    more : (groups : List (List ℕ)) (group : List ℕ) → Begun groups → length groups < 16 →
        Formed answers tolerance contexts edges groups group → Begun (groups ++ group ∷ [])

  -- all groups: there are 16, or no kept edge has both ends free
  abbrev pub Greedy : List (List ℕ) → Type 0
  Greedy groups = Begun groups × ((length groups ≡ 16) ⊎ ((e : Edge) → Contains edges e → IsFree groups e → ⊥))
