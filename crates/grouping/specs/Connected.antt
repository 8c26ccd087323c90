-- Groups whose members are joined by kept edges inside the group.
use Rattle.std.specs.Prelude.{◌≡◌, ℕ, ◌<◌, true, List}
use Rattle.plan_core.specs.declared.profiles.Edge.{Edge}
use Rattle.grouping.specs.Weights.{is_in, weight_between}

-- a way leads from a context to another, along edges to members of the group
pub data Leads (edges : List Edge) (group : List ℕ) (x : ℕ) : ℕ → Type 0 where
  here : Leads edges group x x
  along : (y z : ℕ) → Leads edges group x y → is_in group z ≡ true → 0 < weight_between edges y z
      → Leads edges group x z

-- a way leads from each member to each other one
abbrev pub IsConnected : List Edge → List ℕ → Type 0
IsConnected edges group = (x y : ℕ) → is_in group x ≡ true → is_in group y ≡ true → Leads edges group x y
