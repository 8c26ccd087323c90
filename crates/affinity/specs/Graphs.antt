-- The graph of a list of events.
use Rattle.std.specs.Prelude.{◌≡◌, ℕ, ◌<◌, ◌==◌, ◌&&◌, Bool, true, List, length, count_by, slice_index, slice_index_or}
use Rattle.std.specs.Prelude.{All}
use Rattle.std.specs.List.{list_any}
use Rattle.plan_core.specs.declared.profiles.Event.{Event}
use Rattle.plan_core.specs.declared.profiles.Edge.{Edge}
use Rattle.plan_core.specs.declared.profiles.Node.{Node}
use Rattle.plan_core.specs.declared.profiles.Graph.{Graph}
use Rattle.plan_core.specs.Graphs.{IsOrdered}
use Rattle.affinity.specs.Histories.{contexts_of, access_list, different}
use Rattle.affinity.specs.Weights.{weight}

-- how many grants are of a context
abbrev pub grants_of : List Event → ℕ → ℕ
grants_of h context = count_by (λ c. c == context) (contexts_of h)

-- how many entries of the access list are of blocks of a context
abbrev pub accesses_in : List Event → ℕ → ℕ
accesses_in h context = count_by (λ e. slice_index (contexts_of h) e.block == context) (access_list h)

-- whether an edge has these ends
abbrev pub has_ends : ℕ → ℕ → Edge → Bool
has_ends low high e = (e.low == low) && (e.high == high)

-- the node of a context counts its grants and its entries
abbrev pub NodesCount : List Event → List Node → Type 0
NodesCount h nodes =
    (length nodes ≡ different (contexts_of h))
    × ((c : ℕ) (d : Node) → c < length nodes
    → ((slice_index_or nodes c d).grants ≡ grants_of h c) × ((slice_index_or nodes c d).accesses ≡ accesses_in h c))

-- the graph of a list of events: a node for each context, and the pairs of a weight above 0 as edges, in order
pub record IsGraph (distance : ℕ) (h : List Event) (g : Graph) : Type 0 where
  pub nodes : NodesCount h g.nodes
  pub ordered : IsOrdered g
  pub weights : All (λ e. (e.weight ≡ weight distance h e.low e.high) × (0 < e.weight)) g.edges
  pub whole : (low high : ℕ) → 0 < weight distance h low high → list_any (has_ends low high) g.edges ≡ true
