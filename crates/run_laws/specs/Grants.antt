-- The grants of a run: in which turn, of which block, of which group, and in which chunk the block stands.
use Rattle.std.specs.Prelude.{◌≡◌, ◌<◌, ◌≤◌, ℕ, suc, ◌+◌, ◌*◌, List, true, All, Option, Some, slice_index}
use Rattle.plan_core.specs.declared.types.Plan.{Plan}
use Rattle.plan_core.specs.Plan.{group_of_bits}
use Rattle.place_spec.specs.Layout.{Block, address_of, chunk_front, chunk_of}
use Rattle.sym_value.specs.Places.{capacity_of, is_living}
use Rattle.sym_spec.specs.SymMachine.{SymMachine, lives_of}
use Rattle.sym_spec.specs.SymNotes.{note}
use Rattle.sym_spec.specs.SymRuns.{sym_run}
use Rattle.sym_spec.specs.HeapActions.{base}

-- a run: of a file under a plan, on an input
pub record Run : Type 0 where
  pub file : List ℕ
  pub plan : Plan
  pub input : List ℕ

-- the machine before turn n
abbrev pub machine_at : Run → (n : ℕ) → SymMachine
machine_at run n = (sym_run run.file run.plan run.input n).machine

-- turn n grants a block
abbrev pub Grants : Run → (n block : ℕ) → Type 0
Grants run n block = (note run.file run.plan (machine_at run n)).grant ≡ Some block

-- the group of an allocation in turn n: that of the first row whose mask is in the bits, or none
abbrev pub group_at : Run → (n : ℕ) → Option ℕ
group_at run n = group_of_bits run.plan.rows (machine_at run n).bits

-- a block lives before turn n
abbrev pub Lives : Run → (n block : ℕ) → Type 0
Lives run n block = is_living (lives_of run.file (machine_at run n)) block ≡ true

-- the address that a block, which was granted before turn n, got, and the one behind its last byte
abbrev pub begins : Run → (n block : ℕ) → ℕ
begins run n block = slice_index (machine_at run n).at block

abbrev pub ends : Run → (n block : ℕ) → ℕ
ends run n block = begins run n block + capacity_of (lives_of run.file (machine_at run n)) block

-- a block, which was granted before turn n, stands in chunk k
abbrev pub StandsIn : Run → (k n block : ℕ) → Type 0
StandsIn run k n block =
    (address_of (base run.file run.plan) (chunk_front run.plan.area k) ≤ begins run n block)
    × (begins run n block < address_of (base run.file run.plan) (chunk_front run.plan.area (k + 1)))

-- the owner and the live count of chunk k before turn n
abbrev pub owner_at : Run → (k n : ℕ) → Option ℕ
owner_at run k n = (chunk_of (machine_at run n).layout k).owner

abbrev pub live_count_at : Run → (k n : ℕ) → ℕ
live_count_at run k n = (chunk_of (machine_at run n).layout k).live

-- turn n grants a block that stands in chunk k
pub record GrantsIn (run : Run) (k n block : ℕ) : Type 0 where
  pub granted : Grants run n block
  pub stands : StandsIn run k (suc n) block

-- the block that turn `turn` granted is this live block of the layout before turn n: by its address, its capacity and
-- its group
pub record IsBlock (run : Run) (n turn block : ℕ) (b : Block) : Type 0 where
  pub address : begins run n block ≡ address_of (base run.file run.plan) b.first
  pub capacity : capacity_of (lives_of run.file (machine_at run n)) block ≡ 16 * b.granules
  pub group : b.group ≡ group_at run turn

-- a live block of the layout before turn n is a block that lives then
pub record IsNamed (run : Run) (n : ℕ) (b : Block) : Type 0 where
  pub block : ℕ
  pub turn : ℕ
  pub before : turn < n
  pub granted : Grants run turn block
  pub lives : Lives run n block
  pub is : IsBlock run n turn block b

-- all groups are below 16
abbrev pub HasGroups : Run → Type 0
HasGroups run = All (λ row. row.group < 16) run.plan.rows
