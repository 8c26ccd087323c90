-- What a growing group knows of the edges inside it and to each context.
use Rattle.std.specs.Prelude.{◌≡◌, ℕ, ◌<◌, Bool, List, length, All, AllPairs, slice_index, slice_index_or, true}
use Rattle.plan_core.specs.declared.profiles.Edge.{Edge}
use Rattle.plan_core.specs.Graphs.{EndsBefore, Joins}
use Rattle.grouping.specs.declared.kept.Kept.{Kept}
use Rattle.grouping.specs.declared.growth.Growth.{Growth}
use Rattle.grouping.specs.Weights.{weight_between, weight_across, weight_inside, loops_in}
use Rattle.grouping.specs.Greedy.{is_taken}

-- edges between contexts below a number, their pairs ascending
pub record AreEdges (contexts : ℕ) (edges : List Edge) : Type 0 where
  pub joins : All (Joins contexts) edges
  pub ascending : AllPairs EndsBefore edges

-- the weight of each context's edge to itself
abbrev pub AreLoops : List Edge → List ℕ → Type 0
AreLoops edges loops = (y : ℕ) → y < length loops → slice_index loops y ≡ weight_between edges y y

-- some edges and the weight of each context's loop among them
pub record AreKept (contexts : ℕ) (kept : Kept) : Type 0 where
  pub edges : AreEdges contexts kept.edges.items
  pub count : length kept.loops.items ≡ contexts
  pub loops : AreLoops kept.edges.items kept.loops.items

-- the counts of a growing group are those of its members
pub record IsCounted (edges : List Edge) (g : Growth) : Type 0 where
  pub loops : g.loops ≡ loops_in edges g.members.items
  pub weight : g.weight ≡ weight_inside edges g.members.items
  pub cross : (y : ℕ) → y < length g.cross.items → slice_index g.cross.items y ≡ weight_across edges y g.members.items

-- the marks say which contexts are in one of the groups
abbrev pub Marks : List Bool → List (List ℕ) → Type 0
Marks busy groups = (y : ℕ) → y < length busy → slice_index_or busy y true ≡ is_taken groups y
