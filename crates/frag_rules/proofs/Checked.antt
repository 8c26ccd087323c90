-- A fragment that the test passes has its fields, and its words are counted by its parts.
use Rattle.std.proofs.Common.{◌≡◌, ℕ, ◌+◌, ◌%◌, ◌^◌, Bool, true, ◌&&◌, length, refl, arith, length-append}
use Rattle.std.specs.Prelude.{nat_lt, [], ◌∷◌, ◌-◌, ◌*◌}
use Rattle.std.proofs.lemmas.Bool.Decides.{nat_tests}
use Rattle.rv_isa.specs.declared.Op.{Op}
use Rattle.rv_isa.specs.declared.Op.TheVariants.{Add, Sub, Sll, Slt, Sltu, Xor, Srl, Sra, Or, And, Mul, Mulh, Mulhsu}
use Rattle.rv_isa.specs.declared.Op.TheVariants.{Mulhu, Div, Divu, Rem, Remu}
use Rattle.rv_isa.specs.declared.Instr.TheVariants as rv
use Rattle.rv_isa.specs.Encoded.{IsExtended, IsOperand}
use Rattle.machine_spec.proofs.AllFrom.{and_first, and_second}
use Rattle.frag_code.specs.Fragments.{Fragment, Skip, Set, Compute, Imm, Load, Store, Seq, If, While}
use Rattle.frag_code.specs.Code.{instructions_of}
use Rattle.frag_code.specs.Forms.{HasFields, is_target, is_source}
use Rattle.frag_rules.specs.Checks.{is_near, is_operand, has_fields, words_in}

near : (x : ℕ) → is_near x ≡ true → IsExtended 12 x
near x h =
    let first : nat_lt x (2 ^ 32) ≡ true = and_first (nat_lt x (2 ^ 32)) (nat_lt ((x + 2 ^ 11) % 2 ^ 32) (2 ^ 12)) h in
    let second : nat_lt ((x + 2 ^ 11) % 2 ^ 32) (2 ^ 12) ≡ true = and_second (nat_lt x (2 ^ 32))
    (nat_lt ((x + 2 ^ 11) % 2 ^ 32) (2 ^ 12)) h in
    record { word = grind (arith, nat_tests); sign = grind (arith, nat_tests) }

operand : (op : Op) (x : ℕ) → is_operand op x ≡ true → IsOperand op x
operand Add x h = near x h
operand Sub x h = absurd (cc)
operand Sll x h = grind (arith, nat_tests)
operand Slt x h = near x h
operand Sltu x h = near x h
operand Xor x h = near x h
operand Srl x h = grind (arith, nat_tests)
operand Sra x h = grind (arith, nat_tests)
operand Or x h = near x h
operand And x h = near x h
operand Mul x h = absurd (cc)
operand Mulh x h = absurd (cc)
operand Mulhsu x h = absurd (cc)
operand Mulhu x h = absurd (cc)
operand Div x h = absurd (cc)
operand Divu x h = absurd (cc)
operand Rem x h = absurd (cc)
operand Remu x h = absurd (cc)

three : (p q : Bool) (r : Bool) → (p && (q && r)) ≡ true → (p ≡ true) × ((q ≡ true) × (r ≡ true))
three p q r h =
    let rest : (q && r) ≡ true = and_second p (q && r) h in
    (and_first p (q && r) h, (and_first q r rest, and_second q r rest))

pub fields : (f : Fragment) → has_fields f ≡ true → HasFields f
fields Skip h = tt
fields (Set rd value) h = h
fields (Compute op rd rs1 rs2) h =
    let t = three (is_target rd) (is_source rs1) (is_source rs2) h in (t.0, t.1.0, t.1.1)
fields (Imm op rd rs1 imm) h =
    let t = three (is_target rd) (is_source rs1) (is_operand op imm) h in (t.0, t.1.0, operand op imm t.1.1)
fields (Load rd rs1 offset) h =
    let t = three (is_target rd) (is_source rs1) (is_near offset) h in (t.0, t.1.0, near offset t.1.1)
fields (Store rs1 rs2 offset) h =
    let t = three (is_source rs1) (is_source rs2) (is_near offset) h in (t.0, t.1.0, near offset t.1.1)
fields (Seq a b) h = (
  fields a (and_first (has_fields a) (has_fields b) h),
  fields b
      (and_second (has_fields a) (has_fields b) h),
)
fields (If c rs1 rs2 a b) h =
    let t = three (is_source rs1) (is_source rs2) (has_fields a && has_fields b) h in (
      t.0,
      t.1.0,
      fields a (and_first (has_fields a) (has_fields b) t.1.1),
      fields b
          (and_second (has_fields a) (has_fields b) t.1.1),
    )
fields (While c rs1 rs2 body) h =
    let t = three (is_source rs1) (is_source rs2) (has_fields body) h in (t.0, t.1.0, fields body t.1.1)

pub words_are : (f : Fragment) → length (instructions_of f) ≡ words_in f
unfolding instructions_of
words_are Skip = refl
words_are (Set rd value) = refl
words_are (Compute op rd rs1 rs2) = refl
words_are (Imm op rd rs1 imm) = refl
words_are (Load rd rs1 offset) = refl
words_are (Store rs1 rs2 offset) = refl
words_are (Seq a b) =
    let first = words_are a in let second = words_are b in
    let both = length-append (instructions_of a) (instructions_of b) in omega (arith, first, second, both)
words_are (If c rs1 rs2 a b) =
    let first = words_are a in let second = words_are b in
    let both = length-append (instructions_of a)
    (rv.Jal 0 (4 * (length (instructions_of b) + 1)) ∷ instructions_of b) in
    omega (arith, first, second, both)
words_are (While c rs1 rs2 body) =
    let first = words_are body in
    let both = length-append (instructions_of body)
    (rv.Jal 0 (2 ^ 32 - 4 * (length (instructions_of body) + 2)) ∷ []) in
    omega (arith, first, both)
