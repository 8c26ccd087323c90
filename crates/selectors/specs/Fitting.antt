-- Rows and sites that make a fitting plan, as far as lists alone tell.
use Rattle.std.specs.Prelude.{◌≡◌, ◌≢◌, ℕ, ◌<◌, ◌≤◌, ◌^◌, true, List, length, slice_index_or, All, AllPairs}
use Rattle.plan_core.specs.declared.types.Row.{Row}
use Rattle.plan_core.specs.declared.types.PlanLine.{PlanLine}
use Rattle.selectors.specs.declared.selecting.Selected.{Selected}
use Rattle.selectors.specs.Sets.{holds_in}

-- a row of one of 16 groups whose bits are below a number
abbrev pub IsRowBelow : ℕ → Row → Type 0
IsRowBelow n row = (row.group < 16) × (row.mask < 2 ^ n)

-- an address is a site of one of the contexts
abbrev pub IsSiteOf : List (List ℕ) → ℕ → Type 0
IsSiteOf contexts s = (d : ℕ) × (d < length contexts) × (holds_in contexts d s ≡ true)

-- at most 32 sites, each once, on the bit of its place and on some context; at most 64 rows of their bits
pub record IsFitting (contexts : List (List ℕ)) (selected : Selected) : Type 0 where
  pub few_sites : length selected.sites ≤ 32
  pub bits : (i : ℕ) (d : PlanLine) → i < length selected.sites → (slice_index_or selected.sites i d).bit ≡ i
  pub once : AllPairs (λ a b. a.addr ≢ b.addr) selected.sites
  pub sites : All (λ line. IsSiteOf contexts line.addr) selected.sites
  pub few_rows : length selected.rows ≤ 64
  pub rows : All (IsRowBelow (length selected.sites)) selected.rows
