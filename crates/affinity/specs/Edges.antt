-- The edges of a table of weights, and their order.
use Rattle.std.specs.Prelude.{ℕ, List, map}
use Rattle.std.specs.Ordering.{nat_cmp, ordering_then}
use Rattle.std.specs.declared.cmp.Ordering.{Ordering}
use Rattle.plan_core.specs.declared.profiles.Edge.{Edge}
use Rattle.affinity.specs.declared.entries.Pair.{Pair}

-- a pair and its weight as an edge
abbrev pub edge_of : Pair × ℕ → Edge
edge_of e = record { low = e.0.low; high = e.0.high; weight = e.1 }

-- the pairs and their weights as edges
abbrev pub edges_in : List (Pair × ℕ) → List Edge
edges_in weights = map edge_of weights

-- the order of edges: by the lower end, then by the higher, then by the weight
abbrev pub edge_cmp : Edge → Edge → Ordering
edge_cmp e f = ordering_then (nat_cmp e.low f.low) (ordering_then (nat_cmp e.high f.high) (nat_cmp e.weight f.weight))
