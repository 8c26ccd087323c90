-- Where chunks begin and end.
use Rattle.std.proofs.Common.{◌≡◌, ℕ, ◌+◌, ◌<◌, ◌≤◌, ◌⊎◌, inl, inr, arith}
use Rattle.std.proofs.Math.Nat.{suc-mul}
use Rattle.std.proofs.lemmas.Nat.{mul-le}
use Rattle.std.proofs.lemmas.Bool.{cases_order}
use Rattle.plan_core.specs.declared.types.Area.{Area}
use Rattle.plan_core.specs.Plan.{granules}
use Rattle.place_spec.specs.Layout.{Block, chunk_size, chunk_front}
use Rattle.place_spec.specs.Sound.{InChunk}

pub front_next : (area : Area) (k : ℕ) → chunk_front area (k + 1) ≡ chunk_front area k + chunk_size area
front_next area k = let m = suc-mul k (chunk_size area) in omega (arith, m)

pub front_le : (area : Area) (j k : ℕ) → j ≤ k → chunk_front area j ≤ chunk_front area k
front_le area j k l = let m = mul-le j (chunk_size area) k (chunk_size area) l (omega arith) in omega (arith, m)

pub front_below : (area : Area) (j k : ℕ) → j < k → chunk_front area (j + 1) ≤ chunk_front area k
front_below area j k l = front_le area (j + 1) k (omega arith)

pub front_end : (area : Area) (k : ℕ) → k < area.chunks → chunk_front area (k + 1) ≤ granules area
front_end area k l = front_le area (k + 1) area.chunks (omega arith)

pub front_from : (area : Area) (k : ℕ) → area.fallback ≤ chunk_front area k
front_from area k = omega arith

-- a block stands in one chunk
pub in_one : (area : Area) (j k : ℕ) (b : Block) → InChunk area j b → InChunk area k b → j ≡ k
in_one area j k b p q = at (cases_order j k)
  where
    at : (j ≡ k) ⊎ ((j < k) ⊎ (k < j)) → j ≡ k
    at (inl e) = e
    at (inr (inl l)) = absurd (let m = front_below area j k l in omega (arith, m))
    at (inr (inr l)) = absurd (let m = front_below area k j l in omega (arith, m))
