-- What was done for a request is its outcome.
use Rattle.std.proofs.Common.{◌≡◌, ◌≢◌, ℕ, ◌^◌, ◌<◌, true, [], ◌∷◌, ◌++◌, length, refl, ap, sym, ◌∙◌, arith}
use Rattle.std.specs.Prelude.{Option, Some, None, IsSome, slice_index}
use Rattle.place_spec.specs.Layout.{granules_for, address_of}
use Rattle.place_spec.specs.Place.{Placed, placed}
use Rattle.sym_value.specs.declared.Value.TheVariants.{Num, Ptr}
use Rattle.sym_cells.specs.Memory.{Memory, granted, copied}
use Rattle.sym_spec.specs.SymMachine.{SymMachine}
use Rattle.sym_spec.specs.HeapActions.{base, answers, grants, moves}
use Rattle.sym_machine.specs.declared.requests.Acted.{Acted}
use Rattle.sym_machine.specs.Reached.{HeldMemory}
use Rattle.sym_machine.specs.Placing.{block_lives, with_placed, without, machine_with, outcome_with}
use Rattle.sym_machine.proofs.Lives.{named, index_front, same_lives, copied_lives, granted_old, granted_new}
use Rattle.sym_machine.proofs.Placed.{placed_with}
use Rattle.sym_machine.proofs.Outcomes.{grants_none, grants_some, moves_none, moves_some}

-- the old block and the new one after a grant
pub lives_on : (need : ℕ) (m : Memory) (b : ℕ) → block_lives m b ≡ true → block_lives (granted need m) b ≡ true
lives_on need m b h = granted_old need m b (named m b h) ∙ h

pub differs : (m : Memory) (b c : ℕ) → block_lives m b ≡ true → c ≡ length m.blocks → b ≢ c
differs m b c h e = λ s. (let l = named m b h in omega (arith, l, s, e))

-- one more block is where it was placed
pub record IsAdded (old mid : HeldMemory) (need bits block : ℕ) : Type 0 where
  pub spot : Placed
  pub is : placed_with old need bits ≡ Some spot
  pub after : mid ≡ with_placed need spot old
  pub name : block ≡ length old.memory.blocks

pub is_added : (old mid : HeldMemory) (need bits block : ℕ) → IsSome (placed_with old need bits)
    → ((p : Placed) → placed_with old need bits ≡ Some p → mid ≡ with_placed need p old)
    → block ≡ length old.memory.blocks → IsAdded old mid need bits block
is_added old mid need bits block some adds name = by_place (placed_with old need bits) refl some
  where
    by_place : (r : Option Placed) → placed_with old need bits ≡ r → IsSome r → IsAdded old mid need bits block
    by_place None e some = absurd (cc)
    by_place (Some p) e some = record { spot = p; is = e; after = adds p e; name = name }

module _ (old mid : HeldMemory) (need bits block : ℕ) (added : IsAdded old mid need bits block) where
  pub same_ground : (mid.file ≡ old.file) × (mid.plan ≡ old.plan)
  same_ground = (ap (λ (h : HeldMemory). h.file) added.after, ap (λ (h : HeldMemory). h.plan) added.after)

  memory_is : mid.memory ≡ granted need old.memory
  memory_is = ap (λ (h : HeldMemory). h.memory) added.after

  pub old_lives : (b : ℕ) → block_lives old.memory b ≡ true → block_lives mid.memory b ≡ true
  old_lives b lives = ap (λ m. block_lives m b) memory_is ∙ lives_on need old.memory b lives

  pub new_lives : block_lives mid.memory block ≡ true
  new_lives = ap (λ m. block_lives m block) memory_is ∙ ap (block_lives (granted need old.memory)) added.name
      ∙ granted_new need old.memory

abbrev pub acted_with : (block : ℕ) → Option ℕ → Acted
acted_with block release = record { answer = Ptr block 0; grant = Some block; release = release }

-- where a block was placed, as the definitions say it
placed_here : (old : HeldMemory) (need bits size : ℕ) (m : SymMachine) (r : Option Placed) → m.bits ≡ bits
    → need ≡ granules_for size → placed_with old need bits ≡ r
    → placed old.plan.rows old.plan.area old.layout (granules_for size) m.bits ≡ r
placed_here old need bits size m r b n e =
    ap (placed_with old (granules_for size)) b ∙ ap (λ x. placed_with old x bits) (sym n) ∙ e

-- a block was granted
granted_at : (old mid : HeldMemory) (size block : ℕ) (m : SymMachine) (p : Placed) → size < 2 ^ 32
    → placed old.plan.rows old.plan.area old.layout (granules_for size) m.bits ≡ Some p
    → mid ≡ with_placed (granules_for size) p old → block ≡ length old.memory.blocks
    → grants old.file old.plan size (machine_with old m) ≡ outcome_with (acted_with block None) (machine_with mid m)
granted_at old mid size block m p l e n s = rw (n, s) (grants_some old.file old.plan size (machine_with old m) p l e)

pub granted_done : (old mid : HeldMemory) (size need bits block : ℕ) (m : SymMachine) → m.bits ≡ bits → size < 2 ^ 32
    → need ≡ granules_for size → IsAdded old mid need bits block
    → grants old.file old.plan size (machine_with old m) ≡ outcome_with (acted_with block None) (machine_with mid m)
granted_done old mid size need bits block m b l n a =
    granted_at old mid size block m a.spot l (placed_here old need bits size m (Some a.spot) b n a.is)
    (a.after ∙ ap (λ x. with_placed x a.spot old) n) a.name

-- a block was moved
moved_at : (old mid copy new : HeldMemory) (b size block : ℕ) (m : SymMachine) (p : Placed)
    → placed old.plan.rows old.plan.area old.layout (granules_for size) m.bits ≡ Some p
    → mid ≡ with_placed (granules_for size) p old → block ≡ length old.memory.blocks
    → copy ≡ record mid { memory = copied b block mid.memory } → new ≡ without b copy → b < length old.at
    → moves old.file old.plan b size (machine_with old m)
    ≡ outcome_with (acted_with block (Some b)) (machine_with new m)
moved_at old mid copy new b size block m p e n s f g l =
    let place : slice_index (old.at ++ address_of (base old.file old.plan) p.granule ∷ []) b ≡ slice_index old.at b =
    index_front old.at (address_of (base old.file old.plan) p.granule ∷ []) b l in
    rw (g, f, n, s, place) (moves_some old.file old.plan b size (machine_with old m) p e)

pub moved_done : (old mid copy new : HeldMemory) (b size need bits block : ℕ) (m : SymMachine) → m.bits ≡ bits
    → need ≡ granules_for size → IsAdded old mid need bits block
    → copy ≡ record mid { memory = copied b block mid.memory } → new ≡ without b copy
    → length old.at ≡ length old.memory.blocks → block_lives old.memory b ≡ true
    → moves old.file old.plan b size (machine_with old m)
    ≡ outcome_with (acted_with block (Some b)) (machine_with new m)
moved_done old mid copy new b size need bits block m c n a f g one lives =
    moved_at old mid copy new b size block m a.spot (placed_here old need bits size m (Some a.spot) c n a.is)
    (a.after ∙ ap (λ x. with_placed x a.spot old) n) a.name f g (omega (arith, one, named old.memory b lives))

pub moved_ground : (old mid copy new : HeldMemory) (b need bits block : ℕ) → IsAdded old mid need bits block
    → copy ≡ record mid { memory = copied b block mid.memory } → new ≡ without b copy
    → (new.file ≡ old.file) × (new.plan ≡ old.plan)
moved_ground old mid copy new b need bits block a f g = (
  ap (λ (h : HeldMemory). h.file) g ∙ ap (λ (h : HeldMemory). h.file) f ∙ (same_ground old mid need bits block a).0,
  ap (λ (h : HeldMemory). h.plan) g ∙ ap (λ (h : HeldMemory). h.plan) f ∙ (same_ground old mid need bits block a).1,
)

-- a block lives on when cells are copied
pub copied_on : (mid copy : HeldMemory) (from onto b : ℕ) → copy ≡ record mid { memory = copied from onto mid.memory }
    → block_lives mid.memory b ≡ true → block_lives copy.memory b ≡ true
copied_on mid copy from onto b e lives =
    ap (λ (h : HeldMemory). block_lives h.memory b) e
    ∙ same_lives mid.memory (copied from onto mid.memory) b (copied_lives from onto mid.memory) ∙ lives

-- a request that doesn't fit
pub refused : (old : HeldMemory) (size need bits : ℕ) (m : SymMachine) → m.bits ≡ bits → size < 2 ^ 32
    → need ≡ granules_for size → placed_with old need bits ≡ None
    → grants old.file old.plan size (machine_with old m) ≡ answers (Num 0) (machine_with old m)
refused old size need bits m b l n e =
    grants_none old.file old.plan size (machine_with old m) l (placed_here old need bits size m None b n e)

pub refused_move : (old : HeldMemory) (b size need bits : ℕ) (m : SymMachine) → m.bits ≡ bits
    → need ≡ granules_for size → placed_with old need bits ≡ None
    → moves old.file old.plan b size (machine_with old m) ≡ answers (Num 0) (machine_with old m)
refused_move old b size need bits m c n e =
    moves_none old.file old.plan b size (machine_with old m) (placed_here old need bits size m None c n e)
