-- What contracts see of an affinity and of its parts.
use Rattle.std.specs.Prelude.{ℕ, ◌+◌, ◌-◌, ◌==◌, ◌&&◌, if◌then◌else◌, Bool, List, [], ◌∷◌, ◌++◌, length, take}
use Rattle.std.specs.Prelude.{unwrap_or, slice_set, slice_index_or, Option, Some, None}
use Rattle.std.specs.Map.{lookup}
use Rattle.plan_core.specs.declared.profiles.Node.{Node}
use Rattle.affinity.specs.declared.entries.Entry.{Entry}
use Rattle.affinity.specs.declared.entries.Pair.{Pair}
use Rattle.affinity.specs.Near.{in_reach}

-- the contexts of the grants, in order, and how many different ones there are
pub record Granted : Type 0 where
  pub contexts : List ℕ
  pub count : ℕ

-- the entries that are kept, how many there were, and the number of each block's last entry
pub record Held : Type 0 where
  pub entries : List Entry
  pub count : ℕ
  pub lasts : List (Option ℕ)

-- what is kept of the events beside their numbers
pub record Memory : Type 0 where
  pub granted : Granted
  pub ring : Held
  pub nodes : List Node
  pub weights : List (Pair × ℕ)

-- an affinity: its distance, its numbers of grants, of different contexts and of accesses, which blocks live,
-- and the rest
pub record Seen : Type 0 where
  pub distance : ℕ
  pub grants : ℕ
  pub contexts : ℕ
  pub accesses : ℕ
  pub lives : List Bool
  pub memory : Memory

-- no grant
abbrev pub no_grants : Granted
no_grants = record { contexts = []; count = 0 }

-- no block and no entry
abbrev pub no_entries : Held
no_entries = record { entries = []; count = 0; lasts = [] }

-- an affinity before any event
abbrev pub blank_affinity : ℕ → Seen
blank_affinity distance = record {
  distance = distance;
  grants = 0;
  contexts = 0;
  accesses = 0;
  lives = [];
  memory = record { granted = no_grants; ring = no_entries; nodes = []; weights = [] };
}

-- a node without grants and entries
abbrev pub no_node : Node
no_node = record { grants = 0; accesses = 0 }

-- a node with one grant more
abbrev pub one_grant : Node → Node
one_grant n = record n { grants = n.grants + 1 }

-- a node with one entry more
abbrev pub one_access : Node → Node
one_access n = record n { accesses = n.accesses + 1 }

-- the nodes after a grant of a context, whose node may be new
abbrev pub grant_counted : ℕ → List Node → List Node
grant_counted context nodes =
    if context == length nodes
    then nodes ++ (one_grant no_node ∷ [])
    else slice_set nodes context (one_grant (slice_index_or nodes context no_node))

-- the nodes after an entry of a block of a context
abbrev pub access_counted : ℕ → List Node → List Node
access_counted context nodes = slice_set nodes context (one_access (slice_index_or nodes context no_node))

-- one grant more
abbrev pub with_grant : ℕ → Granted → Granted
with_grant context g = record {
  contexts = g.contexts ++ (context ∷ []);
  count = if context == g.count then g.count + 1 else g.count;
}

-- one block more, which has no entry
abbrev pub with_block : Held → Held
with_block a = record a { lasts = a.lasts ++ (None ∷ []) }

-- the blocks without the last
abbrev pub without_block : Held → Held
without_block a = record a { lasts = take (length a.lasts - 1) a.lasts }

-- one entry more: those that it is too far from are no longer kept
abbrev pub entered : ℕ → Held → Entry → Held
entered distance a e = record {
  entries = in_reach distance (a.entries ++ (e ∷ []));
  count = a.count + 1;
  lasts = slice_set a.lasts e.block (Some a.count);
}

-- whether two pairs are one
abbrev pub same_pair : Pair → Pair → Bool
same_pair p q = (p.low == q.low) && (p.high == q.high)

-- the weight that is kept for a pair of contexts; 0 where there is none
abbrev pub weight_at : List (Pair × ℕ) → ℕ → ℕ → ℕ
weight_at weights low high = unwrap_or (lookup (same_pair (record { low = low; high = high })) weights) 0
