-- The best candidate of those seen so far.
use Rattle.std.specs.Prelude.{◌≡◌, ◌≢◌, ℕ, ℤ, pos, ◌<◌, ◌≤ℤ◌, ◌<ℤ◌, Option, None, Some, Bool, true, false, List, length}
use Rattle.std.specs.Prelude.{slice_index_or, MatchOption, Contains, nat_lt, if◌then◌else◌}
use lib.Signed.{le_z, lt_z}
use Rattle.plan_core.specs.declared.profiles.Edge.{Edge}
use Rattle.group_policy.specs.declared.cut.Cut.{Cut}
use Rattle.grouping.specs.Weights.{cut_of}
use Rattle.grouping.specs.Greedy.{IsHeavier}
use Rattle.grouping.specs.declared.choice.Choice.{Choice}

-- for what may be said of each context, and which contexts are outside
module _ (says : ℕ → ℤ → Type 0) (outside : ℕ → Type 0) (n : ℕ) where
  -- each context outside below n is given one answer, and none is above a bound
  abbrev pub NoneAbove : Type 0
  NoneAbove = (y : ℕ) → y < n → outside y → (other : ℤ) × says y other × (other ≤ℤ pos 0)

  -- each context outside below n is given one answer; x has this one, the greatest, and is the lowest with it
  abbrev pub IsGreatest : ℕ → ℤ → Type 0
  IsGreatest x answer = (x < n) × outside x × says x answer
      × ((y : ℕ) → y < n → outside y → y ≢ x → (other : ℤ) × says y other × (other ≤ℤ answer)
      × (y < x → other <ℤ answer))

  -- x has the greatest answer, and it is above 0
  abbrev pub IsChosen : ℕ → Type 0
  IsChosen x = (answer : ℤ) × (pos 0 <ℤ answer) × IsGreatest x answer

  -- a choice is the best, and with none no context is outside
  abbrev pub IsBest : Option Choice → Type 0
  IsBest None = (y : ℕ) → y < n → outside y → ⊥
  IsBest (Some best) = IsGreatest best.context best.answer

-- the greater of two choices, the first of equal ones
abbrev pub better_of : Option Choice → Choice → Option Choice
better_of None choice = Some choice
better_of (Some best) choice = if le_z choice.answer best.answer then Some best else Some choice

-- the context of a choice whose answer is above 0
abbrev pub if_above_zero : Option Choice → Option ℕ
if_above_zero None = None
if_above_zero (Some choice) = if lt_z (pos 0) choice.answer then Some choice.context else None

-- the contexts that aren't marked as busy
abbrev pub IsIdle : List Bool → ℕ → Type 0
IsIdle busy x = slice_index_or busy x true ≡ false

-- for a rule's answers: which of the contexts that aren't busy joins a group, if one does
abbrev pub Chooses : (Cut → ℤ → Type 0) → List Edge → ℕ → List ℕ → List Bool → Option ℕ → Type 0
Chooses answers edges tolerance group busy choice =
    MatchOption choice
    (NoneAbove (λ x answer. answers (cut_of edges tolerance group x) answer) (IsIdle busy) (length busy))
    (IsChosen (λ x answer. answers (cut_of edges tolerance group x) answer) (IsIdle busy) (length busy))

-- both ends of an edge aren't busy
abbrev pub IsIdleEdge : List Bool → Edge → Type 0
IsIdleEdge busy e = IsIdle busy e.low × IsIdle busy e.high

-- the heavier of two edges, the first of equal ones
abbrev pub heavier_of : Option Edge → Edge → Option Edge
heavier_of None edge = Some edge
heavier_of (Some best) edge = if nat_lt best.weight edge.weight then Some edge else Some best

-- of the first n edges with idle ends this one is the heaviest, at place k, the first of equal ones
abbrev pub IsHeaviestAt : List Edge → List Bool → ℕ → Edge → ℕ → Type 0
IsHeaviestAt edges busy n e k = (k < n) × (slice_index_or edges k e ≡ e) × IsIdleEdge busy e
    × ((i : ℕ) (d : Edge) → i < n → i ≢ k → IsIdleEdge busy (slice_index_or edges i d)
    → IsHeavier e (slice_index_or edges i d))

-- which of the first n edges is the heaviest with idle ends, if there is one
abbrev pub IsHeaviest : List Edge → List Bool → ℕ → Option Edge → Type 0
IsHeaviest edges busy n None = (i : ℕ) (d : Edge) → i < n → IsIdleEdge busy (slice_index_or edges i d) → ⊥
IsHeaviest edges busy n (Some e) = (k : ℕ) × IsHeaviestAt edges busy n e k

-- which edge is the heaviest with idle ends, if there is one
abbrev pub FindsHeaviest : List Edge → List Bool → Option Edge → Type 0
FindsHeaviest edges busy found = MatchOption found
    ((e : Edge) → Contains edges e → IsIdleEdge busy e → ⊥)
    (λ e. Contains edges e × IsIdleEdge busy e × ((f : Edge) → Contains edges f → IsIdleEdge busy f → f ≢ e
    → IsHeavier e f))
