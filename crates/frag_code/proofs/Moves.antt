-- The step of each instruction of a fragment's code.
use Rattle.std.proofs.Common.{◌≡◌, ℕ, zero, suc, ◌+◌, ◌%◌, ◌^◌, ◌<◌, List, Bool, true, false, cond, refl, ap, sym, ◌∙◌}
use Rattle.std.proofs.Common.{arith}
use Rattle.std.specs.Prelude.{Some, nat_eq, ◌==◌, slice_set}
use Rattle.std.proofs.lemmas.Bool.Decides.{nat_tests}
use Rattle.rv_isa.specs.declared.Op.{Op}
use Rattle.rv_isa.specs.declared.Op.TheVariants.{Add, Sub, Sll, Slt, Sltu, Xor, Srl, Sra, Or, And, Mul, Mulh, Mulhsu}
use Rattle.rv_isa.specs.declared.Op.TheVariants.{Mulhu, Div, Divu, Rem, Remu}
use Rattle.rv_isa.specs.declared.Cond.{Cond}
use Rattle.rv_isa.specs.declared.Width.TheVariants.{Word}
use Rattle.rv_isa.specs.declared.Instr.{Instr}
use Rattle.rv_isa.specs.declared.Instr.TheVariants as rv
use Rattle.rv_isa.specs.Compute.{computed, is_held}
use Rattle.rv_isa.specs.Encoded.{encoded, IsFormed, IsExtended, IsOperand}
use Rattle.rv_isa.specs.Split.{split_of}
use Rattle.rv_isa.specs.Table.{decoded}
use Rattle.machine_spec.proofs.AllFrom.{and_first, and_second}
use Rattle.machine_spec.specs.Start.{behind}
use Rattle.flat_spec.specs.Stores.{loaded, stored}
use Rattle.flat_spec.specs.Machine.{Machine, register}
use Rattle.flat_spec.specs.Machine as flat
use Rattle.flat_spec.specs.Calls.{quiet}
use Rattle.rv_isa.specs.Addresses.{plus}
use Rattle.flat_spec.specs.Turns.{executes, acts}
use Rattle.flat_spec.specs.Runs.{step}
use Rattle.frag_code.specs.Forms.{is_target, is_source}
use Rattle.frag_code.specs.Meaning.{View, Rights, put, read, with_register, with_word, holds, is_allowed}
use Rattle.frag_code.specs.Machines.{IsWordAt, HasRights}
use Rattle.frag_code.proofs.Steps.{state, step_quiet, fetched_aligned}
use Rattle.frag_code.proofs.OnWay.{OnWay, target_small, source_small, turn_at, way_gives, way_jumps, way_passes}
use Rattle.frag_code.proofs.Stores.{way_stores}

-- the next step leads to a machine at a place, which shows a view
pub record Moves (g : Rights) (start : Machine) (at : ℕ) (s : View) (m : Machine) (input output : List ℕ) : Type 0 where
  pub next : Machine
  pub is : step (state m input output) ≡ state next input output
  pub way : OnWay g start at s next

-- an access that is allowed
pub allowed_aligned : (right : ℕ → Bool) (a : ℕ) → is_allowed right a ≡ true → a % 4 ≡ 0
allowed_aligned right a h = let first : (a % 4 == 0) ≡ true = and_first (a % 4 == 0) (right a) h in
    grind (arith, nat_tests)

pub allowed_right : (right : ℕ → Bool) (a : ℕ) → is_allowed right a ≡ true → right a ≡ true
allowed_right right a h = and_second (a % 4 == 0) (right a) h

-- a register that is set twice
way_again : (g : Rights) (start : Machine) (at rd u v : ℕ) (s : View) (m : Machine)
    → OnWay g start at (with_register rd v (with_register rd u s)) m → OnWay g start at (with_register rd v s) m
way_again g start at rd u v s m h = record {
  running = h.running;
  there = h.there;
  long = h.long;
  shows = record { registers = λ r small. h.shows.registers r small ∙ same r; words = h.shows.words };
  others = h.others;
  shape = h.shape;
  bytes = h.bytes;
}
  where
    by : (k : ℕ) (t : Bool) → cond t v (cond t u (s.registers k)) ≡ cond t v (s.registers k)
    by k true = refl
    by k false = refl

    same : (r : ℕ) → read (put (put s.registers rd u) rd v) r ≡ read (put s.registers rd v) r
    same zero = refl
    same (suc r) = by (suc r) (nat_eq (suc r) rd)

-- the two parts of a value
split_sum : (v : ℕ) → ((split_of v).0 + (split_of v).1) % 2 ^ 32 ≡ v % 2 ^ 32
split_sum v = omega arith

split_upper : (v : ℕ) → ((split_of v).0 < 2 ^ 32) × ((split_of v).0 % 2 ^ 12 ≡ 0)
split_upper v = (omega arith, omega arith)

split_lower : (v : ℕ) → IsExtended 12 (split_of v).1
split_lower v = record { word = omega arith; sign = omega arith }

sum_is : (a b v : ℕ) → (a + b) % 2 ^ 32 ≡ v → computed Add a b ≡ v
unfolding computed
sum_is a b v e = e

-- what each instruction does, with what its registers hold
lui_acts : (input : List ℕ) (m : Machine) (rd u : ℕ) → executes input (Some (rv.Lui rd u)) m
    ≡ quiet input (flat.gives rd u m)
unfolding acts
lui_acts input m rd u = refl

addi_acts : (input : List ℕ) (m : Machine) (rd u : ℕ)
    → executes input (Some (rv.OpImm Add rd rd u)) m ≡ quiet input (flat.gives rd (computed Add (register m rd) u) m)
unfolding acts
addi_acts input m rd u = refl

compute_acts : (input : List ℕ) (m : Machine) (op : Op) (rd rs1 rs2 a b : ℕ) → register m rs1 ≡ a → register m rs2 ≡ b
    → executes input (Some (rv.Reg op rd rs1 rs2)) m ≡ quiet input (flat.gives rd (computed op a b) m)
unfolding acts
compute_acts input m op rd rs1 rs2 a b e f = rw (sym e, sym f) refl

imm_acts : (input : List ℕ) (m : Machine) (op : Op) (rd rs1 imm a b : ℕ) → register m rs1 ≡ a → imm ≡ b
    → executes input (Some (rv.OpImm op rd rs1 imm)) m ≡ quiet input (flat.gives rd (computed op a b) m)
unfolding acts
imm_acts input m op rd rs1 imm a b e f = rw (sym e, sym f) refl

load_acts : (input : List ℕ) (m : Machine) (rd rs1 offset b v : ℕ) → register m rs1 ≡ b
    → loaded m.memory Word (plus b offset) ≡ Some v
    → executes input (Some (rv.Load Word rd rs1 offset)) m ≡ quiet input (flat.gives rd v m)
unfolding acts
load_acts input m rd rs1 offset b v e l = rw (e, l) refl

store_acts : (input : List ℕ) (m : Machine) (rs1 rs2 offset b v : ℕ) → register m rs1 ≡ b → register m rs2 ≡ v
    → executes input (Some (rv.Store Word rs1 rs2 offset)) m
    ≡ quiet input (flat.stores (stored m.memory Word (plus b offset) v) m)
unfolding acts
store_acts input m rs1 rs2 offset b v e f = rw (sym e, sym f) refl

jal_acts : (input : List ℕ) (m : Machine) (distance a : ℕ) → plus m.pc distance ≡ a → a % 4 ≡ 0
    → executes input (Some (rv.Jal 0 distance)) m ≡ quiet input
    (record m { registers = slice_set m.registers 0 (behind m.pc); pc = a })
unfolding acts
jal_acts input m distance a e aligned = let test : (a % 4 == 0) ≡ true = grind (arith, nat_tests) in rw (e, test) refl

taken_acts : (input : List ℕ) (m : Machine) (c : Cond) (rs1 rs2 a : ℕ)
    → is_held c (register m rs1) (register m rs2) ≡ true → plus m.pc 8 ≡ a → a % 4 ≡ 0
    → executes input (Some (rv.Branch c rs1 rs2 8)) m ≡ quiet input
    (record m { registers = slice_set m.registers 0 (behind m.pc); pc = a })
unfolding acts
taken_acts input m c rs1 rs2 a held e aligned = let test : (a % 4 == 0) ≡ true = grind (arith, nat_tests) in
    rw (held, e, test) refl

missed_acts : (input : List ℕ) (m : Machine) (c : Cond) (rs1 rs2 : ℕ)
    → is_held c (register m rs1) (register m rs2) ≡ false
    → executes input (Some (rv.Branch c rs1 rs2 8)) m ≡ quiet input (flat.passes m)
unfolding acts
missed_acts input m c rs1 rs2 held = rw held refl

-- an immediate is a word
operand_word : (op : Op) (imm : ℕ) → IsOperand op imm → imm ≡ imm % 2 ^ 32
operand_word Add imm h = omega (arith, h.word)
operand_word Sub imm h = absurd h
operand_word Sll imm h = omega (arith, h)
operand_word Slt imm h = omega (arith, h.word)
operand_word Sltu imm h = omega (arith, h.word)
operand_word Xor imm h = omega (arith, h.word)
operand_word Srl imm h = omega (arith, h)
operand_word Sra imm h = omega (arith, h)
operand_word Or imm h = omega (arith, h.word)
operand_word And imm h = omega (arith, h.word)
operand_word Mul imm h = absurd h
operand_word Mulh imm h = absurd h
operand_word Mulhsu imm h = absurd h
operand_word Mulhu imm h = absurd h
operand_word Div imm h = absurd h
operand_word Divu imm h = absurd h
operand_word Rem imm h = absurd h
operand_word Remu imm h = absurd h

module _ (decodes : (i : Instr) → IsFormed i → decoded (encoded i) ≡ Some i) (g : Rights) (start : Machine)
    (given : HasRights start.memory g) (input output : List ℕ) where
  -- an instruction that gives a register
  gives_move : (at rd v : ℕ) (i : Instr) (s : View) (m : Machine) → OnWay g start at s m
      → IsWordAt start.memory (at % 2 ^ 32) (encoded i)
      → IsFormed i → is_target rd ≡ true → executes input (Some i) m ≡ quiet input (flat.gives rd v m)
      → Moves g start (at + 4) (with_register rd v s) m input output
  gives_move at rd v i s m h stands formed target e = record {
    next = flat.gives rd v m;
    is = step_quiet input output m (flat.gives rd v m) (turn_at decodes g start at i s m input given h stands formed
        ∙ e);
    way = way_gives g start at rd v s m h target;
  }

  pub lui_move : (at rd v : ℕ) (s : View) (m : Machine) → OnWay g start at s m
      → IsWordAt start.memory (at % 2 ^ 32) (encoded (rv.Lui rd (split_of v).0)) → is_target rd ≡ true
      → Moves g start (at + 4) (with_register rd (split_of v).0 s) m input output
  lui_move at rd v s m h stands target =
      gives_move at rd (split_of v).0 (rv.Lui rd (split_of v).0) s m h stands
      ((target_small rd target).1, (split_upper v).0, (split_upper v).1) target (lui_acts input m rd (split_of v).0)

  pub addi_move : (at rd v : ℕ) (s : View) (m : Machine) → OnWay g start at (with_register rd (split_of v).0 s) m
      → IsWordAt start.memory (at % 2 ^ 32) (encoded (rv.OpImm Add rd rd (split_of v).1)) → is_target rd ≡ true
      → Moves g start (at + 4) (with_register rd (v % 2 ^ 32) s) m input output
  addi_move at rd v s m h stands target =
      let upper : register m rd ≡ (split_of v).0 = h.shows.registers rd (target_small rd target).1
      ∙ here rd (target_small rd target).0 in
      let moves : Moves g start (at + 4) (with_register rd (v % 2 ^ 32) (with_register rd (split_of v).0 s)) m input
      output =
      gives_move at rd (v % 2 ^ 32) (rv.OpImm Add rd rd (split_of v).1) (with_register rd (split_of v).0 s) m h stands
      ((target_small rd target).1, (target_small rd target).1, split_lower v) target
      (addi_acts input m rd (split_of v).1 ∙ ap (λ x. quiet input (flat.gives rd x m))
      (sum_is (register m rd) (split_of v).1 (v % 2 ^ 32) (rw upper (split_sum v)))) in
      record {
        next = moves.next;
        is = moves.is;
        way = way_again g start (at + 4) rd (split_of v).0 (v % 2 ^ 32) s
            moves.next moves.way;
      }
    where
      here : (r : ℕ) → 0 < r → read (put s.registers r (split_of v).0) r ≡ (split_of v).0
      here zero h = absurd (omega arith)
      here (suc r) h = let same : nat_eq (suc r) (suc r) ≡ true = grind (arith, nat_tests) in rw same refl

  pub compute_move : (at : ℕ) (op : Op) (rd rs1 rs2 : ℕ) (s : View) (m : Machine) → OnWay g start at s m
      → IsWordAt start.memory (at % 2 ^ 32) (encoded (rv.Reg op rd rs1 rs2)) → is_target rd ≡ true
      → is_source rs1 ≡ true → is_source rs2 ≡ true
      → Moves g start (at + 4) (with_register rd (computed op (read s.registers rs1) (read s.registers rs2)) s) m input
      output
  compute_move at op rd rs1 rs2 s m h stands target first second =
      gives_move at rd (computed op (read s.registers rs1) (read s.registers rs2)) (rv.Reg op rd rs1 rs2) s m h stands
      ((target_small rd target).1, source_small rs1 first, source_small rs2 second) target
      (compute_acts input m op rd rs1 rs2 (read s.registers rs1) (read s.registers rs2)
      (h.shows.registers rs1 (source_small rs1 first)) (h.shows.registers rs2 (source_small rs2 second)))

  pub imm_move : (at : ℕ) (op : Op) (rd rs1 imm : ℕ) (s : View) (m : Machine) → OnWay g start at s m
      → IsWordAt start.memory (at % 2 ^ 32) (encoded (rv.OpImm op rd rs1 imm)) → is_target rd ≡ true
      → is_source rs1 ≡ true → IsOperand op imm
      → Moves g start (at + 4) (with_register rd (computed op (read s.registers rs1) (imm % 2 ^ 32)) s) m input output
  imm_move at op rd rs1 imm s m h stands target source operand =
      gives_move at rd (computed op (read s.registers rs1) (imm % 2 ^ 32)) (rv.OpImm op rd rs1 imm) s m h stands
      ((target_small rd target).1, source_small rs1 source, operand) target
      (imm_acts input m op rd rs1 imm (read s.registers rs1) (imm % 2 ^ 32)
      (h.shows.registers rs1 (source_small rs1 source)) (operand_word op imm operand))

  pub load_move : (at rd rs1 offset : ℕ) (s : View) (m : Machine) → OnWay g start at s m
      → IsWordAt start.memory (at % 2 ^ 32) (encoded (rv.Load Word rd rs1 offset)) → is_target rd ≡ true
      → is_source rs1 ≡ true → IsExtended 12 offset
      → is_allowed g.reads (plus (read s.registers rs1) offset) ≡ true
      → Moves g start (at + 4) (with_register rd (s.memory (plus (read s.registers rs1) offset)) s) m input output
  load_move at rd rs1 offset s m h stands target source near may =
      let a : ℕ = plus (read s.registers rs1) offset in
      gives_move at rd (s.memory a) (rv.Load Word rd rs1 offset) s m h stands
      ((target_small rd target).1, source_small rs1 source, near) target
      (load_acts input m rd rs1 offset (read s.registers rs1) (s.memory a)
      (h.shows.registers rs1 (source_small rs1 source))
      (h.shows.words a (allowed_aligned g.reads a may) (allowed_right g.reads a may)))

  pub store_move : (at rs1 rs2 offset : ℕ) (s : View) (m : Machine) → OnWay g start at s m
      → IsWordAt start.memory (at % 2 ^ 32) (encoded (rv.Store Word rs1 rs2 offset)) → is_source rs1 ≡ true
      → is_source rs2 ≡ true → IsExtended 12 offset
      → is_allowed g.writes (plus (read s.registers rs1) offset) ≡ true
      → Moves g start (at + 4) (with_word (plus (read s.registers rs1) offset) (read s.registers rs2 % 2 ^ 32) s) m
      input output
  store_move at rs1 rs2 offset s m h stands first second near may =
      let a : ℕ = plus (read s.registers rs1) offset in
      let next : Machine = flat.stores (stored m.memory Word a (read s.registers rs2)) m in
      record {
        next = next;
        is = step_quiet input output m next (turn_at decodes g start at (rv.Store Word rs1 rs2 offset) s m input given h
            stands
            (tt, source_small rs1 first, source_small rs2 second, near)
            ∙ store_acts input m rs1 rs2 offset (read s.registers rs1) (read s.registers rs2)
            (h.shows.registers rs1 (source_small rs1 first)) (h.shows.registers rs2 (source_small rs2 second)));
        way = way_stores g start at a (read s.registers rs2) s m given h (allowed_aligned g.writes a may)
            (allowed_right g.writes a may);
      }

  -- a jump to a place
  pub jump_move : (at to distance : ℕ) (s : View) (m : Machine) → OnWay g start at s m
      → IsWordAt start.memory (at % 2 ^ 32) (encoded (rv.Jal 0 distance)) → IsExtended 21 distance → distance % 4 ≡ 0
      → (at + distance) % 2 ^ 32 ≡ to % 2 ^ 32 → Moves g start to s m input output
  jump_move at to distance s m h stands near aligned e =
      let here : at % 2 ^ 32 % 4 ≡ 0 = fetched_aligned start.memory (at % 2 ^ 32) (encoded (rv.Jal 0 distance))
      stands.0 in
      let target : plus m.pc distance ≡ to % 2 ^ 32 = omega (arith, h.there, e) in
      let even : to % 2 ^ 32 % 4 ≡ 0 = omega (arith, e, here, aligned) in
      let next : Machine = record m { registers = slice_set m.registers 0 (behind m.pc); pc = to % 2 ^ 32 } in
      record {
        next = next;
        is = step_quiet input output m next (turn_at decodes g start at (rv.Jal 0 distance) s m input given h stands
            (omega arith, near, omega (arith, aligned))
            ∙ jal_acts input m distance (to % 2 ^ 32) target even);
        way = way_jumps g start at to (behind m.pc) s m h;
      }

  -- a branch over the next word
  pub taken_move : (at : ℕ) (c : Cond) (rs1 rs2 : ℕ) (s : View) (m : Machine) → OnWay g start at s m
      → IsWordAt start.memory (at % 2 ^ 32) (encoded (rv.Branch c rs1 rs2 8)) → is_source rs1 ≡ true
      → is_source rs2 ≡ true
      → holds c rs1 rs2 s ≡ true → Moves g start (at + 4 + 4) s m input output
  taken_move at c rs1 rs2 s m h stands first second held =
      let here : at % 2 ^ 32 % 4 ≡ 0 = fetched_aligned start.memory (at % 2 ^ 32) (encoded (rv.Branch c rs1 rs2 8))
      stands.0 in
      let target : plus m.pc 8 ≡ (at + 4 + 4) % 2 ^ 32 = omega (arith, h.there) in
      let even : (at + 4 + 4) % 2 ^ 32 % 4 ≡ 0 = omega (arith, here) in
      let next : Machine = record m { registers = slice_set m.registers 0 (behind m.pc); pc = (at + 4 + 4) % 2 ^ 32 } in
      record {
        next = next;
        is = step_quiet input output m next (turn_at decodes g start at
            (rv.Branch c rs1 rs2 8) s m input given h stands (
              source_small rs1 first,
              source_small rs2 second,
              record { word = omega arith; sign = omega arith },
              omega
                  arith,
            )
            ∙ taken_acts input m c rs1 rs2 ((at + 4 + 4) % 2 ^ 32)
            (rw (h.shows.registers rs1 (source_small rs1 first), h.shows.registers rs2 (source_small rs2 second))
            held) target even);
        way = way_jumps g start at (at + 4 + 4) (behind m.pc) s m h;
      }

  pub missed_move : (at : ℕ) (c : Cond) (rs1 rs2 : ℕ) (s : View) (m : Machine) → OnWay g start at s m
      → IsWordAt start.memory (at % 2 ^ 32) (encoded (rv.Branch c rs1 rs2 8)) → is_source rs1 ≡ true
      → is_source rs2 ≡ true
      → holds c rs1 rs2 s ≡ false → Moves g start (at + 4) s m input output
  missed_move at c rs1 rs2 s m h stands first second held = record {
    next = flat.passes m;
    is = step_quiet input output m (flat.passes m) (turn_at decodes g start at (rv.Branch c rs1 rs2 8) s m input given h
        stands (
          source_small rs1 first,
          source_small rs2 second,
          record { word = omega arith; sign = omega arith },
          omega
              arith,
        )
        ∙ missed_acts input m c rs1 rs2 (rw (
          h.shows.registers rs1 (source_small rs1 first),
          h.shows.registers rs2
              (source_small rs2 second),
        ) held));
    way = way_passes g start at s m h;
  }
