-- The contexts of a trace and of a profile, by the turns of their run: they are the contexts of its grants before the
-- jumps of their turns, and the event of a grant names its context by its number.
use Rattle.std.specs.Prelude.{◌≡◌, ◌<◌, ℕ, List, Some, slice_get}
use Rattle.plan_core.specs.declared.profiles.Event.{Event}
use Rattle.plan_core.specs.declared.profiles.Event.TheVariants.{Grant}
use Rattle.run_laws.specs.Grants.{Run, Grants}
use Rattle.tidy_runs.specs.Tidy.{context_at}

-- before turn n, a turn of a run grants a block in this context
pub record IsGrantedIn (run : Run) (n : ℕ) (context : List ℕ) : Type 0 where
  pub turn : ℕ
  pub block : ℕ
  pub before : turn < n
  pub grants : Grants run turn block
  pub same : context ≡ context_at run turn

-- the contexts are those of the grants of the first n turns
pub record AreContextsOf (run : Run) (n : ℕ) (contexts : List (List ℕ)) : Type 0 where
  pub each : (k : ℕ) (context : List ℕ) → slice_get contexts k ≡ Some context → IsGrantedIn run n context
  pub all : (turn block : ℕ) → turn < n → Grants run turn block
      → (k : ℕ) × (slice_get contexts k ≡ Some (context_at run turn))

-- an event grants a block in the context that a turn before turn n grants it in
pub record IsNamedIn (run : Run) (n : ℕ) (contexts : List (List ℕ)) (block number : ℕ) : Type 0 where
  pub turn : ℕ
  pub before : turn < n
  pub grants : Grants run turn block
  pub names : slice_get contexts number ≡ Some (context_at run turn)

-- the events of the grants of the first n turns name their contexts
abbrev pub NameContexts : Run → (n : ℕ) → (contexts : List (List ℕ)) → List Event → Type 0
NameContexts run n contexts events =
    (i block number : ℕ) → slice_get events i ≡ Some (Grant block number) → IsNamedIn run n contexts block number
