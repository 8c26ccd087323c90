-- The list of events that an affinity stands for.
use Rattle.std.specs.Prelude.{◌≡◌, ℕ, ◌^◌, ◌<◌, ◌≤◌, nat_lt, not, Bool, true, List, length, slice_index_or, slice_get}
use Rattle.std.specs.Prelude.{All, Some}
use Rattle.plan_core.specs.declared.profiles.Event.{Event}
use Rattle.plan_core.specs.declared.profiles.Event.TheVariants.{Grant, Access, Release}
use Rattle.affinity.specs.Histories.{is_in, contexts_of, released_in, accesses_of, access_list, different, Legal}
use Rattle.affinity.specs.Weights.{weight}
use Rattle.affinity.specs.Graphs.{NodesCount}
use Rattle.affinity.specs.State.{Seen, weight_at}
use Rattle.affinity.specs.Follows.{Follows}

-- a block is among the living ones
abbrev pub IsLive : Seen → ℕ → Type 0
IsLive a block = slice_get a.lives block ≡ Some true

-- an affinity takes an event
abbrev pub Takes : Seen → Event → Type 0
Takes a (Grant block context) = (block ≡ a.grants) × (context ≤ a.contexts) × (a.grants < 4294967295)
Takes a (Access block width) = (1 ≤ width) × IsLive a block × (a.accesses < 4294967295)
Takes a (Release block) = IsLive a block

-- an affinity stands for a legal list of events
pub record Pushed (a : Seen) (h : List Event) : Type 0 where
  pub legal : Legal h
  pub near : a.distance ≤ 4096
  pub grants : a.grants ≡ length (contexts_of h)
  pub contexts : a.contexts ≡ different (contexts_of h)
  pub accesses : a.accesses ≡ length (accesses_of h)
  pub few : (a.grants < 2 ^ 32) × (a.accesses < 2 ^ 32)
  pub lives : length a.lives ≡ a.grants
  pub living : (block : ℕ) (d : Bool) → block < a.grants
      → slice_index_or a.lives block d ≡ not (is_in (released_in h) block)
  pub context_list : a.memory.granted.contexts ≡ contexts_of h
  pub context_count : a.memory.granted.count ≡ a.contexts
  pub ring : Follows a.distance a.memory.ring (access_list h)
  pub ring_blocks : length a.memory.ring.lasts ≡ a.grants
  pub nodes : NodesCount h a.memory.nodes
  pub weights : (low high : ℕ) → weight_at a.memory.weights low high ≡ weight a.distance h low high
  pub counted : All (λ e. 0 < e.1) a.memory.weights
  -- contexts are numbered from 0, and what is released was granted, as the rules of a legal list have it
  pub dense : (context : ℕ) → is_in (contexts_of h) context ≡ nat_lt context a.contexts
  pub granted_first : All (λ block. block < a.grants) (released_in h)
