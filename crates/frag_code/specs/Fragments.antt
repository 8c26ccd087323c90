-- Fragments without the boxes that hold their parts.
use Rattle.std.specs.Prelude.{ℕ, List, [], ◌∷◌}
use Rattle.rv_isa.specs.declared.Op.{Op}
use Rattle.rv_isa.specs.declared.Cond.{Cond}
use Rattle.frag_code.specs.declared.Frag.{Frag}
use Rattle.frag_code.specs.declared.Frag.TheVariants as boxed

pub data Fragment : Type 0 where
  Skip : Fragment
  Set : (rd value : ℕ) → Fragment
  Compute : (op : Op) (rd rs1 rs2 : ℕ) → Fragment
  Imm : (op : Op) (rd rs1 imm : ℕ) → Fragment
  Load : (rd rs1 offset : ℕ) → Fragment
  Store : (rs1 rs2 offset : ℕ) → Fragment
  Seq : (first second : Fragment) → Fragment
  If : (cond : Cond) (rs1 rs2 : ℕ) (taken other : Fragment) → Fragment
  While : (cond : Cond) (rs1 rs2 : ℕ) (body : Fragment) → Fragment

-- what a fragment is, wherever its parts stand
abbrev pub plain : Frag → Fragment
plain boxed.Skip = Skip
plain (boxed.Set rd value) = Set rd value
plain (boxed.Op op rd rs1 rs2) = Compute op rd rs1 rs2
plain (boxed.Imm op rd rs1 imm) = Imm op rd rs1 imm
plain (boxed.Load rd rs1 offset) = Load rd rs1 offset
plain (boxed.Store rs1 rs2 offset) = Store rs1 rs2 offset
plain (boxed.Seq' p first q second) = Seq (plain first) (plain second)
plain (boxed.If' cond rs1 rs2 p taken q other) = If cond rs1 rs2 (plain taken) (plain other)
plain (boxed.While' cond rs1 rs2 p body) = While cond rs1 rs2 (plain body)

-- fragments one after the other
abbrev pub chained : List Fragment → Fragment
chained [] = Skip
chained (f ∷ fs) = Seq f (chained fs)
