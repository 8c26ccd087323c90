-- What a fragment's run may change, apart from what it computes.
use Rattle.std.specs.Prelude.{◌≡◌, ℕ, ◌^◌, ◌<◌, ◌==◌, ◌||◌, Bool, true, false}
use Rattle.frag_code.specs.Fragments.{Fragment, Skip, Set, Compute, Imm, Load, Store, Seq, If, While}
use Rattle.frag_code.specs.Meaning.{View, Rights}

-- the registers that a fragment writes
abbrev pub assigns : Fragment → ℕ → Bool
assigns Skip r = false
assigns (Set rd value) r = rd == r
assigns (Compute op rd rs1 rs2) r = rd == r
assigns (Imm op rd rs1 imm) r = rd == r
assigns (Load rd rs1 offset) r = rd == r
assigns (Store rs1 rs2 offset) r = false
assigns (Seq first second) r = assigns first r || assigns second r
assigns (If cond rs1 rs2 taken other) r = assigns taken r || assigns other r
assigns (While cond rs1 rs2 body) r = assigns body r

-- whether it has a store
abbrev pub has_stores : Fragment → Bool
has_stores Skip = false
has_stores (Set rd value) = false
has_stores (Compute op rd rs1 rs2) = false
has_stores (Imm op rd rs1 imm) = false
has_stores (Load rd rs1 offset) = false
has_stores (Store rs1 rs2 offset) = true
has_stores (Seq first second) = has_stores first || has_stores second
has_stores (If cond rs1 rs2 taken other) = has_stores taken || has_stores other
has_stores (While cond rs1 rs2 body) = has_stores body

-- what a view holds are words
pub record HasWords (g : Rights) (s : View) : Type 0 where
  pub registers : (r : ℕ) → s.registers r < 2 ^ 32
  pub memory : (a : ℕ) → g.reads a ≡ true → s.memory a < 2 ^ 32

-- other rights are these and maybe more
pub record HasMore (g more : Rights) : Type 0 where
  pub reads : (a : ℕ) → g.reads a ≡ true → more.reads a ≡ true
  pub writes : (a : ℕ) → g.writes a ≡ true → more.writes a ≡ true
