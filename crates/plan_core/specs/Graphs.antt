-- The form of a graph of contexts that is written, read and grouped.
use Rattle.std.specs.Prelude.{◌≡◌, ◌⊎◌, ℕ, ◌<◌, ◌≤◌, ◌^◌, length, All, AllPairs}
use Rattle.plan_core.specs.declared.profiles.Edge.{Edge}
use Rattle.plan_core.specs.declared.profiles.Graph.{Graph}

-- the ends of one edge come before those of another: the lower end decides, and then the higher
abbrev pub EndsBefore : Edge → Edge → Type 0
EndsBefore e f = (e.low < f.low) ⊎ ((e.low ≡ f.low) × (e.high < f.high))

-- an edge between two of n contexts, with the lower first and a weight that a run can reach
abbrev pub Joins : ℕ → Edge → Type 0
Joins n e = (e.low ≤ e.high) × (e.high < n) × (e.weight ≤ 2 ^ 44)

-- each edge is between two of the graph's contexts, and the pairs of ends ascend, so that no pair stands twice
pub record IsOrdered (g : Graph) : Type 0 where
  pub joins : All (Joins (length g.nodes)) g.edges
  pub ascending : AllPairs EndsBefore g.edges
