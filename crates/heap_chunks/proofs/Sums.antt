-- The rules of constants in registers.
use Rattle.std.proofs.Common.{◌≡◌, ℕ, zero, suc, ◌+◌, ◌-◌, ◌%◌, ◌^◌, ◌<◌, ◌≤◌, cond, Bool, true, false, refl, ◌∙◌}
use Rattle.std.proofs.Common.{arith}
use Rattle.std.specs.Prelude.{nat_eq, nat_lt}
use Rattle.std.proofs.lemmas.Bool.Decides.{nat_tests}
use Rattle.rv_isa.specs.declared.Op.TheVariants.{Add, Sub}
use Rattle.rv_isa.specs.Compute.{computed}
use Rattle.frag_code.specs.Fragments.{Set, Compute, Imm, Seq}
use Rattle.frag_code.specs.Meaning.{View, Rights, put, read, frag_run}
use Rattle.frag_code.specs.Ends.{Ends}
use Rattle.frag_code.proofs.Rules.{view, set_ends, set_then, compute_ends, imm_ends}
use Rattle.frag_rules.proofs.Values.{sum_is, add_is, sub_is}
use Rattle.heap_chunks.specs.Constants.{constant, plus_constant, minus_constant}

-- a register has a value, all others but a spare one are as before
pub record Gives (rd spare value : ℕ) (r m : ℕ → ℕ) (most : ℕ) (s : View) : Type 0 where
  pub is : s.registers rd ≡ value
  pub others : (k : ℕ) → nat_eq k rd ≡ false → nat_eq k spare ≡ false → s.registers k ≡ r k
  pub memory : s.memory ≡ m
  pub spent : s.spent ≤ most

same_eq : (k : ℕ) → nat_eq k k ≡ true
same_eq k = grind (arith, nat_tests)

pub here : (r : ℕ → ℕ) (rd v : ℕ) → put r rd v rd ≡ v
here r rd v = rw (same_eq rd) refl

pub there : (r : ℕ → ℕ) (rd v k : ℕ) → nat_eq k rd ≡ false → put r rd v k ≡ r k
there r rd v k e = rw e refl

read_there : (r : ℕ → ℕ) (rd v rs : ℕ) → nat_eq rs rd ≡ false → read (put r rd v) rs ≡ read r rs
read_there r rd v zero e = refl
read_there r rd v (suc k) e = there r rd v (suc k) e

read_here : (r : ℕ → ℕ) (rd v : ℕ) → nat_eq 0 rd ≡ false → read (put r rd v) rd ≡ v
read_here r zero v e = absurd (cc)
read_here r (suc k) v e = here r (suc k) v

module _ (g : Rights) (w : ℕ) (r m : ℕ → ℕ) (c : ℕ) where
  pub constant_ends : (rd v : ℕ) → v < 2 ^ 32
      → Ends (frag_run g (constant rd v) w (view r m c)) (Gives rd rd v r m (c + 6))
  constant_ends rd v l = by (nat_lt v 2048)
    where
      by : (t : Bool) → Ends (frag_run g (cond t (Imm Add rd 0 v) (Set rd v)) w (view r m c))
          (Gives rd rd v r m (c + 6))
      by true = imm_ends _ _ _ _ _ _ _ _ _ _ v (add_is 0 (v % 2 ^ 32) v (omega (arith, l)) l)
          (record { is = here r rd v; others = λ k e f. there r rd v k e; memory = refl; spent = omega arith })
      by false = set_ends _ _ _ _ _ _ _ _ v (omega (arith, l))
          (record { is = here r rd v; others = λ k e f. there r rd v k e; memory = refl; spent = omega arith })

  pub plus_ends : (rd rs spare v value : ℕ) → nat_eq rs spare ≡ false → nat_eq 0 spare ≡ false → read r rs + v ≡ value
      → value < 2 ^ 32
      → Ends (frag_run g (plus_constant rd rs spare v) w (view r m c)) (Gives rd spare value r m (c + 6))
  plus_ends rd rs spare v value n z e l = by (nat_lt v 2048)
    where
      by : (t : Bool)
          → Ends (frag_run g (cond t (Imm Add rd rs v) (Seq (Set spare v) (Compute Add rd rs spare))) w (view r m c))
          (Gives rd spare value r m (c + 6))
      by true = imm_ends _ _ _ _ _ _ _ _ _ _ value (add_is (read r rs) (v % 2 ^ 32) value (omega (arith, e, l)) l)
          (record { is = here r rd value; others = λ k e f. there r rd value k e; memory = refl; spent = omega arith })
      by false = set_then _ _ _ _ _ _ _ _ _ v (omega (arith, e, l))
          (compute_ends _ _ _ _ _ _ _ _ _ _ value
          (rw (read_there r spare v rs n, read_here r spare v z) (add_is (read r rs) v value e l))
          (record {
            is = here (put r spare v) rd value;
            others = λ k a b. there (put r spare v) rd value k a ∙ there r spare v k b;
            memory = refl;
            spent = omega arith;
          }))

  pub minus_ends : (rd rs spare v value : ℕ) → nat_eq rs spare ≡ false → nat_eq 0 spare ≡ false
      → value + v ≡ read r rs → read r rs < 2 ^ 32
      → Ends (frag_run g (minus_constant rd rs spare v) w (view r m c)) (Gives rd spare value r m (c + 6))
  minus_ends rd rs spare v value n z e l = by (nat_lt (v - 1) 2048)
    where
      sum : computed Add (read r rs) ((2 ^ 32 - v) % 2 ^ 32 % 2 ^ 32) ≡ value
      sum = sum_is (read r rs) ((2 ^ 32 - v) % 2 ^ 32 % 2 ^ 32) value (omega (arith, e, l))

      by : (t : Bool)
          → Ends (frag_run g (cond t (Imm Add rd rs ((2 ^ 32 - v) % 2 ^ 32))
          (Seq (Set spare v) (Compute Sub rd rs spare))) w (view r m c)) (Gives rd spare value r m (c + 6))
      by true = imm_ends _ _ _ _ _ _ _ _ _ _ value sum
          (record { is = here r rd value; others = λ k e f. there r rd value k e; memory = refl; spent = omega arith })
      by false = set_then _ _ _ _ _ _ _ _ _ v (omega (arith, e, l))
          (compute_ends _ _ _ _ _ _ _ _ _ _ value
          (rw (read_there r spare v rs n, read_here r spare v z) (sub_is (read r rs) v value (omega (arith, e)) l))
          (record {
            is = here (put r spare v) rd value;
            others = λ k a b. there (put r spare v) rd value k a ∙ there r spare v k b;
            memory = refl;
            spent = omega arith;
          }))
