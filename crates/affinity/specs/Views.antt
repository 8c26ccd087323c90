-- What contracts see of the fields of an affinity.
use Rattle.std.specs.Prelude.{length}
use Rattle.affinity.specs.declared.pushes.Affinity.TheInside.{Inside}
use Rattle.affinity.specs.State.{Seen}

-- an affinity, from its fields
abbrev pub seen_of : Inside → Seen
seen_of a = record {
  distance = a.distance;
  grants = length a.grants.contexts;
  contexts = a.grants.count;
  accesses = a.accesses;
  lives = a.lives.items;
  memory = record { granted = a.grants; ring = a.ring; nodes = a.nodes.items; weights = a.weights.entries };
}
