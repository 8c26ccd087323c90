-- What a ring holds of an access list.
use Rattle.std.specs.Prelude.{◌≡◌, ℕ, ◌+◌, ◌<◌, ◌≤◌, List, length, slice_index_or, All, MatchOption, Option}
use Rattle.affinity.specs.declared.entries.Entry.{Entry}
use Rattle.affinity.specs.Weights.{block_at}
use Rattle.affinity.specs.Near.{in_reach}
use Rattle.affinity.specs.State.{Held}

-- no entry from one on is of a block
abbrev pub LacksFrom : List Entry → ℕ → ℕ → Type 0
LacksFrom es block i = (k : ℕ) → i ≤ k → k < length es → block_at es k ≡ block → ⊥

-- the number of a block's last entry, or none where it has no entry
abbrev pub IsLastOf : List Entry → ℕ → Option ℕ → Type 0
IsLastOf es block last =
    MatchOption last (LacksFrom es block 0)
    (λ k. (k < length es) × (block_at es k ≡ block) × LacksFrom es block (k + 1))

-- the last entry and those in reach of it, how many there were, and each block's last entry
pub record Follows (distance : ℕ) (a : Held) (es : List Entry) : Type 0 where
  pub entries : a.entries ≡ in_reach distance es
  pub count : a.count ≡ length es
  pub lasts : (block : ℕ) (d : Option ℕ) → block < length a.lasts → IsLastOf es block (slice_index_or a.lasts block d)
  pub blocks : All (λ e. e.block < length a.lasts) es
