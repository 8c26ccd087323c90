-- A machine on its way through code: it shows a view, and all else is as at the start.
use Rattle.std.proofs.Common.{◌≡◌, ◌≢◌, ℕ, zero, suc, ◌+◌, ◌*◌, ◌/◌, ◌%◌, ◌^◌, ◌<◌, List, Bool, true, false, cond, ◌&&◌}
use Rattle.std.proofs.Common.{length, map, refl, ap, sym, ◌∙◌, arith, inl, inr, length-set, get_or-set_same}
use Rattle.std.proofs.Common.{get_or-set_other}
use Rattle.std.specs.Prelude.{Some, None, is_some, nat_eq, ◌==◌, slice_index, slice_set}
use Rattle.std.proofs.lemmas.Bool.Decides.{nat_tests}
use Rattle.rv_isa.specs.declared.Width.TheVariants.{Word}
use Rattle.rv_isa.specs.declared.Instr.{Instr}
use Rattle.rv_isa.specs.Encoded.{encoded, IsFormed}
use Rattle.rv_isa.specs.Table.{decoded}
use Rattle.machine_spec.specs.declared.Ending.TheVariants.{Running}
use Rattle.machine_spec.specs.Memory.{Range, shape_of, range_at, byte_of}
use Rattle.machine_spec.specs.Widths.{low_bytes}
use Rattle.machine_spec.specs.Start.{behind}
use Rattle.machine_spec.proofs.AllFrom.{and_second, each_passes}
use Rattle.flat_spec.specs.Stores.{stored, fetched, allows_store, can_store, put_bytes}
use Rattle.flat_spec.specs.Machine.{Machine, register}
use Rattle.flat_spec.specs.Machine as flat
use Rattle.flat_spec.specs.Turns.{turn, executes}
use Rattle.flat_spec.proofs.Pieces.{fetched_same}
use Rattle.frag_code.specs.Forms.{is_target, is_source}
use Rattle.frag_code.specs.Meaning.{View, Rights, put, read, with_register, tested}
use Rattle.frag_code.specs.Machines.{IsWordAt, HasRights, Shows, IsWordKept}
use Rattle.frag_code.proofs.Steps.{turn_is}

pub record OnWay (g : Rights) (start : Machine) (at : ℕ) (s : View) (m : Machine) : Type 0 where
  pub running : m.ending ≡ Running
  pub there : m.pc ≡ at % 2 ^ 32
  pub long : length m.registers ≡ 32
  pub shows : Shows g s m
  pub others : (r : ℕ) → is_target r ≡ false → register m r ≡ register start r
  pub shape : map shape_of m.memory ≡ map shape_of start.memory
  pub bytes : (a : ℕ) → a % 4 ≡ 0 → IsWordKept g s start.memory m.memory a

-- registers that a fragment names
pub target_small : (r : ℕ) → is_target r ≡ true → (0 < r) × (r < 32)
target_small r h = (grind (arith, nat_tests), grind (arith, nat_tests))

pub source_small : (r : ℕ) → is_source r ≡ true → r < 32
source_small r h = grind (arith, nat_tests)

-- a register but x0
pub register_is : (m : Machine) (r : ℕ) → register m (suc r) ≡ slice_index m.registers (suc r)
register_is m r = let other : nat_eq (suc r) 0 ≡ false = grind (arith, nat_tests) in rw other refl

-- the bytes of a word that may be written can be stored to
pub stored_storable : (memory : List Range) (a v : ℕ) → is_some (stored memory Word a v) ≡ true
    → can_store memory a 4 ≡ true
unfolding stored
stored_storable memory a v h = at ((a % 4 == 0) && can_store memory a 4) refl h
  where
    at : (t : Bool) → ((a % 4 == 0) && can_store memory a 4) ≡ t
        → is_some (cond t (Some (put_bytes memory a (low_bytes 4 v))) None) ≡ true → can_store memory a 4 ≡ true
    at true e h = and_second (a % 4 == 0) (can_store memory a 4) e
    at false e h = absurd (cc)

pub storable : (memory : List Range) (g : Rights) (a : ℕ) → HasRights memory g → a % 4 ≡ 0 → g.writes a ≡ true
    → can_store memory a 4 ≡ true
storable memory g a given aligned h = stored_storable memory a 0 (given a aligned h).0

-- a byte that can't be stored to stays, and so does code
module _ (g : Rights) (s : View) (before after : List Range) (given : HasRights before g)
    (bytes : (a : ℕ) → a % 4 ≡ 0 → IsWordKept g s before after a) where
  byte_stays : (k : ℕ) → allows_store (range_at before k) ≡ false → byte_of after k ≡ byte_of before k
  byte_stays k fixed = by aligned (bytes (k / 4 * 4) aligned)
    where
      aligned : k / 4 * 4 % 4 ≡ 0
      aligned = omega arith

      by : k / 4 * 4 % 4 ≡ 0 → IsWordKept g s before after (k / 4 * 4) → byte_of after k ≡ byte_of before k
      by aligned (inl same) = same k (omega arith) (omega arith)
      by aligned (inr stored) =
          let all : can_store before (k / 4 * 4) 4 ≡ true = storable before g (k / 4 * 4) given aligned stored.0 in
          let here : allows_store (range_at before k) ≡ true =
          each_passes (λ x. allows_store (range_at before x)) (k / 4 * 4) 4 all k (omega arith) (omega arith) in
          absurd (cc)

  pub code_stays : (place w : ℕ) → map shape_of after ≡ map shape_of before → IsWordAt before place w
      → fetched after place ≡ Some w
  code_stays place w shape stands =
      fetched_same after before place shape (λ k low high. byte_stays k (stands.1 k low high)) ∙ stands.0

-- the turn of an instruction that stands at the machine's place
pub turn_at : (decodes : (i : Instr) → IsFormed i → decoded (encoded i) ≡ Some i) (g : Rights) (start : Machine)
    (at : ℕ) (i : Instr) (s : View) (m : Machine) (input : List ℕ)
    → HasRights start.memory g → OnWay g start at s m → IsWordAt start.memory (at % 2 ^ 32) (encoded i) → IsFormed i
    → turn input m ≡ executes input (Some i) m
turn_at decodes g start at i s m input given h stands formed =
    turn_is input m (encoded i) i h.running (rw h.there (code_stays g s start.memory m.memory given h.bytes
    (at % 2 ^ 32) (encoded i) h.shape stands)) (decodes i formed)

-- the cost isn't seen
pub way_tested : (g : Rights) (start : Machine) (at : ℕ) (s : View) (m : Machine) → OnWay g start at s m
    → OnWay g start at (tested s) m
way_tested g start at s m h = record {
  running = h.running;
  there = h.there;
  long = h.long;
  shows = record { registers = h.shows.registers; words = h.shows.words };
  others = h.others;
  shape = h.shape;
  bytes = h.bytes;
}

-- a register that the code gives
pub way_gives : (g : Rights) (start : Machine) (at rd v : ℕ) (s : View) (m : Machine) → OnWay g start at s m
    → is_target rd ≡ true
    → OnWay g start (at + 4) (with_register rd v s) (flat.gives rd v m)
way_gives g start at rd v s m h target = record {
  running = h.running;
  there = let next : behind (at % 2 ^ 32) ≡ (at + 4) % 2 ^ 32 = omega arith in ap behind h.there ∙ next;
  long = length-set m.registers rd v ∙ h.long;
  shows = record { registers = registers; words = h.shows.words };
  others = others;
  shape = h.shape;
  bytes = h.bytes;
}
  where
    inside : rd < length m.registers
    inside = let small : (0 < rd) × (rd < 32) = target_small rd target in omega (arith, small.1, h.long)

    at_register : (r : ℕ) → slice_index m.registers (suc r) ≡ s.registers (suc r) → (t : Bool) → nat_eq (suc r) rd ≡ t
        → slice_index (slice_set m.registers rd v) (suc r) ≡ cond t v (s.registers (suc r))
    at_register r before true e =
        let same : suc r ≡ rd = grind (arith, nat_tests) in
        rw same (get_or-set_same m.registers rd v 0 inside)
    at_register r before false e =
        let other : suc r ≢ rd = grind (arith, nat_tests) in
        get_or-set_other m.registers rd (suc r) v 0 other ∙ before

    registers : (r : ℕ) → r < 32 → register (flat.gives rd v m) r ≡ read (put s.registers rd v) r
    registers zero small = refl
    registers (suc r) small =
        register_is (flat.gives rd v m) r
        ∙ at_register r (sym (register_is m r) ∙ h.shows.registers (suc r) small) (nat_eq (suc r) rd) refl

    others : (r : ℕ) → is_target r ≡ false → register (flat.gives rd v m) r ≡ register start r
    others zero free = refl
    others (suc r) free =
        let other : suc r ≢ rd = λ e. let clash : true ≡ false = sym target ∙ (ap is_target (sym e) ∙ free) in cc in
        register_is (flat.gives rd v m) r
        ∙ (get_or-set_other m.registers rd (suc r) v 0 other ∙ (sym (register_is m r) ∙ h.others (suc r) free))

-- a jump that links nothing
pub way_jumps : (g : Rights) (start : Machine) (at to v : ℕ) (s : View) (m : Machine) → OnWay g start at s m
    → OnWay g start to s (record m { registers = slice_set m.registers 0 v; pc = to % 2 ^ 32 })
way_jumps g start at to v s m h = record {
  running = h.running;
  there = refl;
  long = length-set m.registers 0 v ∙ h.long;
  shows = record { registers = registers; words = h.shows.words };
  others = others;
  shape = h.shape;
  bytes = h.bytes;
}
  where
    registers : (r : ℕ) → r < 32 → register (record m { registers = slice_set m.registers 0 v; pc = to % 2 ^ 32 }) r
        ≡ read s.registers r
    registers zero small = refl
    registers (suc r) small =
        let other : suc r ≢ 0 = omega arith in
        register_is (record m { registers = slice_set m.registers 0 v; pc = to % 2 ^ 32 }) r
        ∙ (get_or-set_other m.registers 0 (suc r) v 0 other ∙ (sym (register_is m r) ∙ h.shows.registers (suc r) small))

    others : (r : ℕ) → is_target r ≡ false → register (record m
        { registers = slice_set m.registers 0 v; pc = to % 2 ^ 32 }) r ≡ register start r
    others zero free = refl
    others (suc r) free =
        let other : suc r ≢ 0 = omega arith in
        register_is (record m { registers = slice_set m.registers 0 v; pc = to % 2 ^ 32 }) r
        ∙ (get_or-set_other m.registers 0 (suc r) v 0 other ∙ (sym (register_is m r) ∙ h.others (suc r) free))

-- a branch that isn't taken
pub way_passes : (g : Rights) (start : Machine) (at : ℕ) (s : View) (m : Machine) → OnWay g start at s m
    → OnWay g start (at + 4) s (flat.passes m)
way_passes g start at s m h = record {
  running = h.running;
  there = let next : behind (at % 2 ^ 32) ≡ (at + 4) % 2 ^ 32 = omega arith in ap behind h.there ∙ next;
  long = h.long;
  shows = record { registers = h.shows.registers; words = h.shows.words };
  others = h.others;
  shape = h.shape;
  bytes = h.bytes;
}
