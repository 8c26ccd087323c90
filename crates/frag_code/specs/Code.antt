-- The instructions of a fragment. None of them depends on where the code stands.
use Rattle.std.specs.Prelude.{ℕ, ◌+◌, ◌-◌, ◌*◌, ◌^◌, List, [], ◌∷◌, ◌++◌, length, map}
use Rattle.rv_isa.specs.declared.Op.TheVariants.{Add}
use Rattle.rv_isa.specs.declared.Cond.{Cond}
use Rattle.rv_isa.specs.declared.Width.TheVariants.{Word}
use Rattle.rv_isa.specs.declared.Instr.{Instr}
use Rattle.rv_isa.specs.declared.Instr.TheVariants as rv
use Rattle.rv_isa.specs.Split.{split_of}
use Rattle.rv_isa.specs.Encoded.{encoded}
use Rattle.frag_code.specs.Fragments.{Fragment, Skip, Set, Compute, Imm, Load, Store, Seq, If, While}

-- a branch over the jump to the other arm, that jump, the arm of the condition with a jump to the end
-- behind it, and the other arm; distances count from the jump itself
abbrev pub if_code : Cond → ℕ → ℕ → List Instr → List Instr → List Instr
if_code cond rs1 rs2 taken other =
    rv.Branch cond rs1 rs2 8 ∷ rv.Jal 0 (4 * (length taken + 2)) ∷ (taken ++ rv.Jal 0 (4 * (length other + 1)) ∷ other)

-- a branch over the jump to the end, that jump, the body, and a jump back to the branch
abbrev pub while_code : Cond → ℕ → ℕ → List Instr → List Instr
while_code cond rs1 rs2 body =
    rv.Branch cond rs1 rs2 8 ∷ rv.Jal 0 (4 * (length body + 2))
    ∷ (body ++ rv.Jal 0 (2 ^ 32 - 4 * (length body + 2)) ∷ [])

unfoldable pub instructions_of : Fragment → List Instr
instructions_of Skip = []
instructions_of (Set rd value) = rv.Lui rd (split_of value).0 ∷ rv.OpImm Add rd rd (split_of value).1 ∷ []
instructions_of (Compute op rd rs1 rs2) = rv.Reg op rd rs1 rs2 ∷ []
instructions_of (Imm op rd rs1 imm) = rv.OpImm op rd rs1 imm ∷ []
instructions_of (Load rd rs1 offset) = rv.Load Word rd rs1 offset ∷ []
instructions_of (Store rs1 rs2 offset) = rv.Store Word rs1 rs2 offset ∷ []
instructions_of (Seq first second) = instructions_of first ++ instructions_of second
instructions_of (If cond rs1 rs2 taken other) = if_code cond rs1 rs2 (instructions_of taken) (instructions_of other)
instructions_of (While cond rs1 rs2 body) = while_code cond rs1 rs2 (instructions_of body)

-- their words
abbrev pub code_of : Fragment → List ℕ
code_of f = map encoded (instructions_of f)
