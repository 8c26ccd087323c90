use Rattle.std.proofs.Common.{◌≡◌, ◌∙◌, ℕ, ◌+◌, ◌<◌, ◌≤◌, sym, arith}
use Rattle.std.specs.Prelude.{Some}
use Rattle.place_spec.specs.Layout.{Block, address_of, chunk_front, chunk_of}
use Rattle.place_spec.specs.Sound.{InChunk}
use Rattle.sym_spec.specs.HeapActions.{base}
use Rattle.run_laws.specs.Grants.{IsBlock, Run, StandsIn, begins, machine_at}
use Rattle.run_laws.proofs.Blocks.{all_in, of_any}
use Rattle.run_laws.proofs.chunks.live_blocks_in_a_chunk_have_its_owner_as_group.Goals as goal

-- a block of the layout stands in a chunk where its address does
in_chunk : (run : Run) (n k : ℕ) (block : ℕ) (b : Block)
    → begins run n block ≡ address_of (base run.file run.plan) b.first
    → StandsIn run k n block → InChunk run.plan.area k b
in_chunk run n k block b at stands =
    by (begins run n block) b.first (chunk_front run.plan.area k) (chunk_front run.plan.area (k + 1)) at stands
  where
    by : (a g low high : ℕ) → a ≡ address_of (base run.file run.plan) g
        → (address_of (base run.file run.plan) low ≤ a) × (a < address_of (base run.file run.plan) high)
        → (low ≤ g) × (g < high)
    by a g low high at (from, to) = (omega (arith, at, from), omega (arith, at, to))

pub returns : goal.returns
returns c = λ run n turn block k few before granted lives chunk stands.
    let m = machine_at run n in
    let is = of_any (IsBlock run n turn block) m.layout.blocks
    (c.live_blocks_are_those_of_the_layout.ensures.placed run n turn block few before granted lives) in
    let owner = all_in (λ x. (k : ℕ) → k < run.plan.area.chunks → InChunk run.plan.area k x → (group : ℕ)
    × ((chunk_of m.layout k).owner ≡ Some group) × (x.group ≡ Some group)) m.layout.blocks is.0
    (c.blocks_of_a_chunk_have_its_owner_as_group.ensures.reached run.plan.rows run.plan.area m.layout few
    (c.live_blocks_are_those_of_the_layout.ensures.reached run n)) is.1 k chunk
    (in_chunk run n k block is.0 is.2.address stands) in
    (owner.0, owner.1, sym is.2.group ∙ owner.2)
