-- What a served heap request keeps, whatever it was asked for: registers that it may not change, bytes
-- outside the tables and the area, and those of blocks that live on.
use Rattle.std.proofs.Common.{◌≡◌, ◌≢◌, ◌⊎◌, ℕ, ◌+◌, ◌*◌, ◌<◌, ◌≤◌, List, true, false, map, ap, sym, ◌∙◌, subst, arith}
use Rattle.std.proofs.Common.{inl, inr}
use Rattle.std.specs.Prelude.{Some, All, slice_get, slice_index}
use Rattle.std.proofs.lemmas.Bool.Decides.{nat_tests}
use Rattle.elf_spec.specs.declared.HeapName.{HeapName}
use Rattle.plan_core.specs.declared.types.Plan.{Plan}
use Rattle.place_spec.specs.Layout.{Block, Layout, address_of}
use Rattle.place_spec.specs.Release.{block_at}
use Rattle.site_spec.specs.Places.{data_at}
use Rattle.machine_spec.specs.Memory.{Range, shape_of, byte_of}
use Rattle.flat_spec.specs.Machine.{Machine, register, word_read}
use Rattle.heap_spec.specs.Places.{area_end}
use Rattle.heap_spec.specs.Service.{IsServed, IsInBlock, IsOutside, may_change}
use Rattle.sym_value.specs.declared.live.Life.{Life}
use Rattle.sym_cells.specs.Memory as cells
use Rattle.sym_cells.specs.Memory.{Memory, capacity_of, life_of}
use Rattle.sym_cells.specs.Cells.{cell_in}
use Rattle.sym_cells.specs.Region.{Region, is_offset}
use Rattle.sym_spec.specs.SymMachine.{SymMachine}
use Rattle.sym_spec.specs.HeapActions.{base}
use Rattle.match_spec.specs.Stands.{back_of, places_of}
use Rattle.match_spec.specs.Parts.{InMemory, BlocksMatch, IsBlock}
use Rattle.block_laws.specs.Blocks.{IsOneOf}
use Rattle.simulation.specs.Ground.{Ground}
use Rattle.simulation.specs.HeapGround.{HeapGround}
use Rattle.simulation.proofs.AfterRequest.{KeptOutside}
use Rattle.simulation.proofs.OneMore.{all_of, one_of}
use Rattle.simulation.proofs.Ready.{AtWords}

-- registers that may not change
pub registers_kept : (file : List ℕ) (plan : Plan) (new : List ℕ) (heap : HeapGround file plan new) (name : HeapName)
    (s : SymMachine) (m end : Machine) (input output : List ℕ) → AtWords file plan new heap name s m input output
    → (at : Machine) → ((k : ℕ) → k ≢ 5 → register at k ≡ register m k)
    → ((r : ℕ) → may_change r ≡ false → register end r ≡ register at r) → (r : ℕ) → may_change r ≡ false
    → word_read end.registers r ≡ word_read m.registers r
registers_kept file plan new heap name s m end input output there at others kept r e =
    kept r e ∙ others r (λ five.
    let clash : true ≡ false = subst (λ k. may_change k ≡ false) five e in absurd (cc))

-- bytes outside the tables and the area
pub outside_kept : (file : List ℕ) (plan : Plan) (new : List ℕ) (heap : HeapGround file plan new) (name : HeapName)
    (s : SymMachine) (m : Machine) (input output : List ℕ) → (at : AtWords file plan new heap name s m input output)
    → (after : Layout) (Answers : Machine → Type 0)
    → (served : IsServed plan.area (data_at file) s.layout after at.machine input output Answers)
    → KeptOutside file plan m.memory served.end.memory
outside_kept file plan new heap name s m input output at after Answers served = record {
  shape = served.shape ∙ ap (map shape_of) at.memory;
  outside = λ a out. served.outside a (beside a out) ∙ ap (λ x. byte_of x a) at.memory;
  small = served.machine.bytes;
}
  where
    beside : (a : ℕ) → (a < data_at file) ⊎ (area_end plan.area (data_at file) ≤ a)
        → IsOutside plan.area (data_at file) a
    beside a (inl low) = inl low
    beside a (inr high) = inr (inr high)

-- a living block is a live block of the layout, which is found there
pub record Living (file : List ℕ) (plan : Plan) (layout : Layout) (at : List ℕ) (lives : List Life) (b : ℕ)
    (k : Life) : Type 0 where
  pub block : Block
  pub one : IsOneOf layout.blocks block
  pub is : IsBlock (base file plan) at lives b block
  pub found : block_at layout block.first ≡ Some block
  pub size : k.capacity ≡ 16 * block.granules
  pub filled : 0 < block.granules

pub living : (file : List ℕ) (plan : Plan) (new : List ℕ) (layout : Layout) (at : List ℕ) (lives : List Life) (b : ℕ)
    (k : Life) → Ground file plan new → BlocksMatch file plan layout at lives → slice_get lives b ≡ Some k
    → k.lives ≡ true → Living file plan layout at lives b k
living file plan new layout at lives b k g h e live =
    let (x, (one, is)) = one_of (IsBlock (base file plan) at lives b) layout.blocks (h.placed b k e live) in
    let same : Some k ≡ Some (record { capacity = 16 * x.granules; lives = true }) = sym e ∙ is.life in
    let life : k ≡ record { capacity = 16 * x.granules; lives = true } = cc in
    record {
      block = x;
      one = one;
      is = is;
      found = all_of (λ y. block_at layout y.first ≡ Some y) layout.blocks x
          (g.laws.found plan.area layout h.sound) one;
      size = ap (λ (l : Life). l.capacity) life;
      filled = all_of (λ y. 0 < y.granules) layout.blocks x h.sound.blocks_filled one;
    }

-- the same of the machine's blocks
abbrev pub LivingIn : List ℕ → Plan → SymMachine → ℕ → Life → Type 0
LivingIn file plan s b k = Living file plan s.layout s.at (map life_of s.memory.blocks) b k

-- the bytes of blocks that live on
abbrev pub BlocksKept : List ℕ → Plan → SymMachine → Layout → (before after : List Range) → Type 0
BlocksKept file plan s layout before after =
    All (λ x. block_at s.layout x.first ≡ Some x → (a : ℕ) → IsInBlock plan.area (data_at file) x a
    → byte_of after a ≡ byte_of before a) layout.blocks

pub living_kept : (file : List ℕ) (plan : Plan) (new : List ℕ) (s : SymMachine) (before after : List Range)
    (layout : Layout) (b : ℕ) (k : Life) → (living : LivingIn file plan s b k)
    → BlocksKept file plan s layout before after
    → IsOneOf layout.blocks living.block → (o : ℕ) → o < k.capacity
    → byte_of after (slice_index s.at b + o) ≡ byte_of before (slice_index s.at b + o)
living_kept file plan new s before after layout b k living kept one o low =
    let address : slice_index s.at b ≡ address_of (base file plan) living.block.first = living.is.address in
    let size : k.capacity ≡ 16 * living.block.granules = living.size in
    all_of (λ x. block_at s.layout x.first ≡ Some x → (a : ℕ) → IsInBlock plan.area (data_at file) x a
    → byte_of after a ≡ byte_of before a) layout.blocks living.block kept one living.found (slice_index s.at b + o)
    (omega (arith, address), omega (arith, address, size, low))

-- and so its cells still stand
pub region_kept : (file : List ℕ) (plan : Plan) (new : List ℕ) (s : SymMachine) (before after : List Range)
    (layout : Layout) (b : ℕ) (k : cells.Block) → Ground file plan new
    → InMemory file new (places_of file plan s.at) s.memory before
    → slice_get s.memory.blocks b ≡ Some k → k.lives ≡ true
    → (living : LivingIn file plan s b (life_of k))
    → BlocksKept file plan s layout before after
    → IsOneOf layout.blocks living.block
    → Region (back_of file plan) s.at after (slice_index s.at b) (is_offset k) (cell_in k.cells)
region_kept file plan new s before after layout b k g h there lives living kept one =
    g.laws.same_region (back_of file plan) s.at before after (slice_index s.at b) (is_offset k) (cell_in k.cells)
    (λ o inside. living_kept file plan new s before after layout b (life_of k) living kept one o (below o inside))
    (h.stands.blocks_stand b k there lives)
  where
    below : (o : ℕ) → is_offset k o ≡ true → o < capacity_of k
    below o inside = grind (arith, nat_tests)
