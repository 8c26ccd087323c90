-- Instructions on both machines, at an address that no site line names.
use Rattle.std.proofs.Common.{◌≡◌, ◌≢◌, ℕ, ◌<◌, ◌^◌, List, Bool, true, false, cond, refl, sym, subst, arith}
use Rattle.std.specs.Prelude.{Option, Some, None, nat_eq, ◌||◌}
use Rattle.std.proofs.lemmas.Bool.Decides.{nat_tests}
use Rattle.rv_isa.specs.declared.Op.{Op}
use Rattle.rv_isa.specs.declared.Op.TheVariants.{Add, Sub, Sll, Slt, Sltu, Xor, Srl, Sra, Or, And, Mul, Mulh, Mulhsu}
use Rattle.rv_isa.specs.declared.Op.TheVariants.{Mulhu, Div, Divu, Rem, Remu}
use Rattle.rv_isa.specs.declared.Cond.{Cond}
use Rattle.rv_isa.specs.declared.Width.{Width}
use Rattle.rv_isa.specs.declared.Instr.{Instr}
use Rattle.rv_isa.specs.declared.Instr.TheVariants.{Lui, Auipc, Jal, Jalr, Branch, Load, Store, OpImm, Reg, Fence}
use Rattle.rv_isa.specs.declared.Instr.TheVariants.{Ecall, Ebreak}
use Rattle.rv_isa.specs.Compute.{computed, is_held}
use Rattle.rv_isa.specs.Encoded.{IsFormed, IsOperand}
use Rattle.rv_isa.specs.Names.{names_register}
use Rattle.elf_spec.specs.Code.{code_word}
use Rattle.plan_core.specs.declared.types.Plan.{Plan}
use Rattle.rv_isa.specs.Addresses.{plus}
use Rattle.machine_spec.specs.declared.Ending.TheVariants.{Running, Illegal}
use Rattle.flat_spec.specs.Machine.{Machine, register}
use Rattle.flat_spec.specs.Machine as flat_machine
use Rattle.flat_spec.specs.Stores as flat_memory
use Rattle.flat_spec.specs.Turns as flat
use Rattle.sym_value.specs.declared.Value.{Value}
use Rattle.sym_value.specs.declared.Value.TheVariants.{Num}
use Rattle.sym_value.specs.Decisions.{decide}
use Rattle.sym_value.specs.Operations.{apply}
use Rattle.sym_cells.specs.Memory.{loaded}
use Rattle.sym_cells.specs.Region.{AreWords}
use Rattle.sym_spec.specs.Plain.{is_plain}
use Rattle.sym_spec.specs.SymMachine.{SymMachine, lives_of, value_of, gives, loads, jumps}
use Rattle.sym_spec.specs.SymTurns.{address_of, branches, acts}
use Rattle.match_spec.specs.Stands.{back_of, places_of, Holds}
use Rattle.match_spec.specs.Matches.{InStep}
use Rattle.match_spec.specs.Keeps.{IsNoFault}
use Rattle.simulation.specs.Ground.{Ground, IsUnchosen}
use Rattle.simulation.proofs.Backs.{back_small}
use Rattle.simulation.proofs.Operations.{holds_num, apply_holds, decide_holds}
use Rattle.simulation.proofs.Loading.{LoadsAlike, loads_alike}
use Rattle.simulation.proofs.Stepping.{gives_alike, passes_alike, stores_alike}
use Rattle.simulation.proofs.Jumping.{jumps_alike, branch_alike}
use Rattle.simulation.proofs.Calling.{ends_alike}

sum_is : (a b : ℕ) → computed Add a b ≡ plus a b
unfolding computed
sum_is a b = refl

-- an immediate operand is a word
operand_small : (op : Op) (imm : ℕ) → IsOperand op imm → imm < 2 ^ 32
operand_small Add imm h = h.word
operand_small Sub imm h = absurd h
operand_small Sll imm h = omega (arith, h)
operand_small Slt imm h = h.word
operand_small Sltu imm h = h.word
operand_small Xor imm h = h.word
operand_small Srl imm h = omega (arith, h)
operand_small Sra imm h = omega (arith, h)
operand_small Or imm h = h.word
operand_small And imm h = h.word
operand_small Mul imm h = absurd h
operand_small Mulh imm h = absurd h
operand_small Mulhsu imm h = absurd h
operand_small Mulhu imm h = absurd h
operand_small Div imm h = absurd h
operand_small Divu imm h = absurd h
operand_small Rem imm h = absurd h
operand_small Remu imm h = absurd h

pub unequal : (a b : ℕ) → nat_eq a b ≡ false → a ≢ b
unequal a b e = grind (arith, nat_tests)

pub neither : (p q : Bool) → (p || q) ≡ false → (p ≡ false) × (q ≡ false)
neither true q e = absurd (cc)
neither false q e = (refl, e)

-- an instruction that neither calls the system nor jumps to a register
abbrev pub IsPlainInstr : Instr → Type 0
IsPlainInstr Ecall = ⊥
IsPlainInstr (Jalr rd rs1 imm) = ⊥
IsPlainInstr i = Unit {0}

-- return addresses are mapped to words
back_words : (file : List ℕ) (plan : Plan) (new : List ℕ) → Ground file plan new → AreWords (back_of file plan)
back_words file plan new g a is = (back_small file plan new a g is).0

load_alike : (file : List ℕ) (plan : Plan) (new : List ℕ) (s : SymMachine) (m : Machine) (width : Width) (rd : ℕ)
    (at : Value) (a : ℕ) → Ground file plan new
    → InStep file plan new s m → rd < 32 → rd ≢ 4 → Holds (places_of file plan s.at) at a
    → IsNoFault (loads rd (loaded (is_plain file) s.memory width at) s).ending
    → InStep file plan new (loads rd (loaded (is_plain file) s.memory width at) s)
    (flat_machine.loads rd (flat_memory.loaded m.memory width a) m)
load_alike file plan new s m width rd at a g h small other holds safe =
    by_value (loaded (is_plain file) s.memory width at) refl safe
  where
    by_value : (o : Option Value) → loaded (is_plain file) s.memory width at ≡ o → IsNoFault (loads rd o s).ending
        → InStep file plan new (loads rd o s) (flat_machine.loads rd (flat_memory.loaded m.memory width a) m)
    by_value (Some v) e safe =
        let alike : LoadsAlike (places_of file plan s.at) m.memory width a v =
        loads_alike file new (places_of file plan s.at) s.memory m.memory width at v a g.laws
        (back_words file plan new g) h.memory holds e in
        rw alike.there (gives_alike file plan new s m rd v alike.word h small other alike.holds)
    by_value None e safe = absurd safe

branches_alike : (file : List ℕ) (plan : Plan) (new : List ℕ) (s : SymMachine) (m : Machine) (condition : Cond)
    (x y : Value) (v w target : ℕ) → Ground file plan new
    → InStep file plan new s m → Holds (places_of file plan s.at) x v → Holds (places_of file plan s.at) y w
    → IsNoFault (branches file (decide (lives_of file s) condition x y) target s).ending
    → InStep file plan new (branches file (decide (lives_of file s) condition x y) target s)
    (cond (is_held condition v w) (flat_machine.jumps 0 target m) (flat_machine.passes m))
branches_alike file plan new s m condition x y v w target g h first second safe =
    at (decide (lives_of file s) condition x y) refl safe
  where
    is : (b : Bool) → decide (lives_of file s) condition x y ≡ Some b → is_held condition v w ≡ b
    is b e = decide_holds (places_of file plan s.at)
        (lives_of file s) condition x y v w b g.laws h.memory.laid.placed first second e

    at : (o : Option Bool) → decide (lives_of file s) condition x y ≡ o → IsNoFault (branches file o target s).ending
        → InStep file plan new (branches file o target s)
        (cond (is_held condition v w) (flat_machine.jumps 0 target m) (flat_machine.passes m))
    at (Some true) e safe = rw (is true e) (branch_alike file plan new s m target g h safe)
    at (Some false) e safe = rw (is false e) (passes_alike file plan new s m h)
    at None e safe = absurd safe

pub acts_alike : (file : List ℕ) (plan : Plan) (new : List ℕ) (s : SymMachine) (m : Machine) (w : ℕ) (i : Instr)
    → Ground file plan new → InStep file plan new s m
    → s.ending ≡ Running → code_word file s.pc ≡ Some w → IsUnchosen file plan s.pc → names_register i 4 ≡ false
    → IsFormed i → IsPlainInstr i
    → IsNoFault (acts file plan i s).ending → InStep file plan new (acts file plan i s) (flat.acts i m)
unfolding acts flat.acts
acts_alike file plan new s m w i g h run code none n r p safe = at i n r p safe
  where
    holds : (r : ℕ) → r < 32 → r ≢ 4 → Holds (places_of file plan s.at) (value_of s r) (register m r)
    holds r small other = h.registers.holds r small other

    applied : (op : Op) (x y : Value) (v w : ℕ) → Holds (places_of file plan s.at) x v
        → Holds (places_of file plan s.at) y w
        → Holds (places_of file plan s.at) (apply (lives_of file s) op x y) (computed op v w)
    applied op x y v w first second = apply_holds (places_of file plan s.at)
        (lives_of file s) op x y v w g.laws h.memory.laid.placed first second

    address : (rs1 imm : ℕ) → rs1 < 32 → rs1 ≢ 4 → imm < 2 ^ 32
        → Holds (places_of file plan s.at) (address_of file s rs1 imm) (plus (register m rs1) imm)
    address rs1 imm small other word =
        subst (λ x. Holds (places_of file plan s.at) (address_of file s rs1 imm) x) (sum_is (register m rs1) imm)
        (applied Add (value_of s rs1) (Num imm) (register m rs1) imm (holds rs1 small other)
        (holds_num (places_of file plan s.at) imm word))

    at : (i : Instr) → names_register i 4 ≡ false → IsFormed i → IsPlainInstr i → IsNoFault (acts file plan i s).ending
        → InStep file plan new (acts file plan i s) (flat.acts i m)
    at (Lui rd imm) n r p safe = gives_alike file plan new s m rd (Num imm) imm h r.0 (unequal rd 4 n)
        (holds_num (places_of file plan s.at) imm r.1)
    at (Auipc rd imm) n r p safe =
        subst (λ x. InStep file plan new (gives rd (Num (plus s.pc imm)) s) (flat_machine.gives rd (plus x imm) m))
        (sym h.pc)
        (gives_alike file plan new s m rd (Num (plus s.pc imm)) (plus s.pc imm) h r.0 (unequal rd 4 n)
        (holds_num (places_of file plan s.at) (plus s.pc imm) (omega arith)))
    at (Jal rd imm) n r p safe =
        subst (λ x. InStep file plan new (jumps file plan rd (plus s.pc imm) s)
        (flat_machine.jumps rd (plus x imm) m)) (sym h.pc)
        (jumps_alike file plan new s m w rd (plus s.pc imm) g h code none r.0 (unequal rd 4 n) safe)
    at (Jalr rd rs1 imm) n r p safe = absurd p
    at (Branch condition rs1 rs2 imm) n r p safe =
        let others : (nat_eq rs1 4 ≡ false) × (nat_eq rs2 4 ≡ false) = neither (nat_eq rs1 4) (nat_eq rs2 4) n in
        subst (λ x. InStep file plan new (branches file
        (decide (lives_of file s) condition (value_of s rs1) (value_of s rs2)) (plus s.pc imm) s)
        (cond (is_held condition (register m rs1) (register m rs2)) (flat_machine.jumps 0 (plus x imm) m)
        (flat_machine.passes m))) (sym h.pc)
        (branches_alike file plan new s m condition (value_of s rs1) (value_of s rs2) (register m rs1)
        (register m rs2) (plus s.pc imm) g h
        (holds rs1 r.0 (unequal rs1 4 others.0)) (holds rs2 r.1 (unequal rs2 4 others.1)) safe)
    at (Load width rd rs1 imm) n r p safe =
        let others : (nat_eq rd 4 ≡ false) × (nat_eq rs1 4 ≡ false) = neither (nat_eq rd 4) (nat_eq rs1 4) n in
        load_alike file plan new s m width rd (address_of file s rs1 imm) (plus (register m rs1) imm) g h r.0
        (unequal rd 4 others.0)
        (address rs1 imm r.1 (unequal rs1 4 others.1) r.2.word) safe
    at (Store width rs1 rs2 imm) n r p safe =
        let others : (nat_eq rs1 4 ≡ false) × (nat_eq rs2 4 ≡ false) = neither (nat_eq rs1 4) (nat_eq rs2 4) n in
        stores_alike file plan new s m width (address_of file s rs1 imm) (value_of s rs2) (plus (register m rs1) imm)
        (register m rs2) g h
        (address rs1 imm r.1 (unequal rs1 4 others.0) r.3.word) (holds rs2 r.2 (unequal rs2 4 others.1)) safe
    at (OpImm op rd rs1 imm) n r p safe =
        let others : (nat_eq rd 4 ≡ false) × (nat_eq rs1 4 ≡ false) = neither (nat_eq rd 4) (nat_eq rs1 4) n in
        gives_alike file plan new s m rd (apply (lives_of file s) op (value_of s rs1) (Num imm))
        (computed op (register m rs1) imm) h r.0 (unequal rd 4 others.0)
        (applied op (value_of s rs1) (Num imm) (register m rs1) imm (holds rs1 r.1 (unequal rs1 4 others.1))
        (holds_num (places_of file plan s.at) imm (operand_small op imm r.2)))
    at (Reg op rd rs1 rs2) n r p safe =
        let others : ((nat_eq rd 4 || nat_eq rs1 4) ≡ false) × (nat_eq rs2 4 ≡ false) =
        neither (nat_eq rd 4 || nat_eq rs1 4) (nat_eq rs2 4) n in
        let firsts : (nat_eq rd 4 ≡ false) × (nat_eq rs1 4 ≡ false) = neither (nat_eq rd 4) (nat_eq rs1 4) others.0 in
        gives_alike file plan new s m rd (apply (lives_of file s) op (value_of s rs1) (value_of s rs2))
        (computed op (register m rs1) (register m rs2)) h r.0 (unequal rd 4 firsts.0)
        (applied op (value_of s rs1) (value_of s rs2) (register m rs1) (register m rs2)
        (holds rs1 r.1 (unequal rs1 4 firsts.1)) (holds rs2 r.2 (unequal rs2 4 others.1)))
    at (Fence rest) n r p safe = passes_alike file plan new s m h
    at Ecall n r p safe = absurd p
    at Ebreak n r p safe =
        subst (λ x. InStep file plan new (record s { ending = Illegal s.pc }) (flat_machine.ends (Illegal x) m))
        (sym h.pc) (ends_alike file plan new s m (Illegal s.pc) h)
