-- Which fragments have code.
use Rattle.std.specs.Prelude.{◌≡◌, ℕ, ◌≤◌, ◌==◌, ◌||◌, ◌&&◌, Bool, true, nat_le, length}
use Rattle.rv_isa.specs.Encoded.{IsExtended, IsOperand}
use Rattle.frag_code.specs.Fragments.{Fragment, Skip, Set, Compute, Imm, Load, Store, Seq, If, While}
use Rattle.frag_code.specs.Code.{instructions_of}

-- the registers that a fragment may write: the temporary and the argument registers, which are t0 to t2
-- (x5 to x7), a0 to a7 (x10 to x17) and t3 to t6 (x28 to x31) (RISC-V psABI, "Integer Register
-- Convention")
abbrev pub is_target : ℕ → Bool
is_target r = (nat_le 5 r && nat_le r 7) || ((nat_le 10 r && nat_le r 17) || (nat_le 28 r && nat_le r 31))

-- those that it may read: these and x0
abbrev pub is_source : ℕ → Bool
is_source r = (r == 0) || is_target r

-- each register is one of these, each offset is from -2048 to 2047, and each immediate is one that its
-- operation takes
abbrev pub HasFields : Fragment → Type 0
HasFields Skip = Unit {0}
HasFields (Set rd value) = is_target rd ≡ true
HasFields (Compute op rd rs1 rs2) = (is_target rd ≡ true) × (is_source rs1 ≡ true) × (is_source rs2 ≡ true)
HasFields (Imm op rd rs1 imm) = (is_target rd ≡ true) × (is_source rs1 ≡ true) × IsOperand op imm
HasFields (Load rd rs1 offset) = (is_target rd ≡ true) × (is_source rs1 ≡ true) × IsExtended 12 offset
HasFields (Store rs1 rs2 offset) = (is_source rs1 ≡ true) × (is_source rs2 ≡ true) × IsExtended 12 offset
HasFields (Seq first second) = HasFields first × HasFields second
HasFields (If cond rs1 rs2 taken other) =
    (is_source rs1 ≡ true) × (is_source rs2 ≡ true) × HasFields taken × HasFields other
HasFields (While cond rs1 rs2 body) = (is_source rs1 ≡ true) × (is_source rs2 ≡ true) × HasFields body

abbrev pub most_words : ℕ
most_words = 4096

pub record IsFormed (f : Fragment) : Type 0 where
  pub fields : HasFields f
  pub size : length (instructions_of f) ≤ most_words
