-- Weights between contexts and inside groups, and the cut that a rule is asked about.
use Rattle.std.specs.Prelude.{ℕ, ◌+◌, ◌==◌, ◌&&◌, ◌||◌, nat_lt, nat_le, Bool, List, [], ◌∷◌, length, filter, count_by}
use Rattle.std.specs.Prelude.{sum_by, insert, if◌then◌else◌}
use Rattle.std.specs.List.{list_any}
use Rattle.plan_core.specs.declared.profiles.Edge.{Edge}
use Rattle.group_policy.specs.declared.cut.Cut.{Cut}

-- the edges of at least some weight
abbrev pub kept_edges : ℕ → List Edge → List Edge
kept_edges least edges = filter (λ e. nat_le least e.weight) edges

-- a context is in a list of contexts
abbrev pub is_in : List ℕ → ℕ → Bool
is_in xs x = list_any (λ y. y == x) xs

-- an edge has these two ends
abbrev pub is_between : ℕ → ℕ → Edge → Bool
is_between x y e = (e.low == x && e.high == y) || (e.low == y && e.high == x)

-- the weight of the edges between two contexts
abbrev pub weight_between : List Edge → ℕ → ℕ → ℕ
weight_between edges x y = sum_by (λ e. if is_between x y e then e.weight else 0) edges

-- the weight of the edges between a context and the members of a group
abbrev pub weight_across : List Edge → ℕ → List ℕ → ℕ
weight_across edges x group = sum_by (λ m. weight_between edges x m) group

-- the weight of the edges between members of a group, loops included
abbrev pub weight_inside : List Edge → List ℕ → ℕ
weight_inside edges [] = 0
weight_inside edges (m ∷ ms) = weight_between edges m m + weight_across edges m ms + weight_inside edges ms

-- how many members have an edge to themselves
abbrev pub loops_in : List Edge → List ℕ → ℕ
loops_in edges group = count_by (λ m. nat_lt 0 (weight_between edges m m)) group

-- what a rule is asked about a group and a candidate
abbrev pub cut_of : List Edge → ℕ → List ℕ → ℕ → Cut
cut_of edges tolerance group x = record {
  nodes = length group;
  loops = loops_in edges group;
  weight = weight_inside edges group;
  node_loop = weight_between edges x x;
  cross = weight_across edges x group;
  tolerance = tolerance;
}

-- a group of ascending contexts with one more, which stands behind those below it
abbrev pub with_member : ℕ → List ℕ → List ℕ
with_member x group = insert group (count_by (λ m. nat_lt m x) group) x
