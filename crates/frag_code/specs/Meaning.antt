-- What a fragment does with registers and words of memory, and what it costs. Nothing here speaks of
-- instructions.
use Rattle.std.specs.Prelude.{ℕ, zero, suc, ◌+◌, ◌%◌, ◌^◌, ◌==◌, ◌&&◌, Bool, Option, Some, None, option_and_then}
use Rattle.std.specs.Prelude.{if◌then◌else◌}
use Rattle.rv_isa.specs.declared.Cond.{Cond}
use Rattle.rv_isa.specs.Compute.{computed, is_held}
use Rattle.rv_isa.specs.Addresses.{plus}
use Rattle.frag_code.specs.Fragments.{Fragment, Skip, Set, Compute, Imm, Load, Store, Seq, If, While}

-- the registers by their numbers, the words of memory by their addresses, and the cost so far
pub record View : Type 0 where
  pub registers : ℕ → ℕ
  pub memory : ℕ → ℕ
  pub spent : ℕ

-- the addresses whose words may be read, and those whose words may be written
pub record Rights : Type 0 where
  pub reads : ℕ → Bool
  pub writes : ℕ → Bool

-- another value in one place
abbrev pub put : (ℕ → ℕ) → ℕ → ℕ → ℕ → ℕ
put f place v k = if k == place then v else f k

-- x0 reads 0
abbrev pub read : (ℕ → ℕ) → ℕ → ℕ
read registers zero = 0
read registers (suc r) = registers (suc r)

-- an operation or a load, a store, and the test of a condition: each costs 3
abbrev pub with_register : ℕ → ℕ → View → View
with_register rd v s = record { registers = put s.registers rd v; memory = s.memory; spent = s.spent + 3 }

abbrev pub with_word : ℕ → ℕ → View → View
with_word a v s = record { registers = s.registers; memory = put s.memory a v; spent = s.spent + 3 }

abbrev pub tested : View → View
tested s = record { registers = s.registers; memory = s.memory; spent = s.spent + 3 }

abbrev pub holds : Cond → ℕ → ℕ → View → Bool
holds cond rs1 rs2 s = is_held cond (read s.registers rs1) (read s.registers rs2)

-- an access at an address that is aligned and has the right
abbrev pub is_allowed : (ℕ → Bool) → ℕ → Bool
is_allowed right a = (a % 4 == 0) && right a

-- at most so many turns of a loop
abbrev pub turns : ℕ → (View → Bool) → (View → Option View) → View → Option View
turns zero test body s = if test s then None else Some (tested s)
turns (suc n) test body s =
    if test s then option_and_then (turns n test body) (body (tested s)) else Some (tested s)

-- the view after a fragment, with at most w turns of each loop; none where an access isn't aligned or
-- lacks its right, and where a loop has more turns
unfoldable pub frag_run : Rights → Fragment → ℕ → View → Option View
frag_run g Skip w s = Some s
frag_run g (Set rd value) w s = Some (with_register rd (value % 2 ^ 32) s)
frag_run g (Compute op rd rs1 rs2) w s = Some (with_register rd
    (computed op (read s.registers rs1) (read s.registers rs2)) s)
frag_run g (Imm op rd rs1 imm) w s = Some (with_register rd (computed op (read s.registers rs1) (imm % 2 ^ 32)) s)
frag_run g (Load rd rs1 offset) w s =
    let a : ℕ = plus (read s.registers rs1) offset in
    if is_allowed g.reads a then Some (with_register rd (s.memory a) s) else None
frag_run g (Store rs1 rs2 offset) w s =
    let a : ℕ = plus (read s.registers rs1) offset in
    if is_allowed g.writes a then Some (with_word a (read s.registers rs2 % 2 ^ 32) s) else None
frag_run g (Seq first second) w s = option_and_then (frag_run g second w) (frag_run g first w s)
frag_run g (If cond rs1 rs2 taken other) w s =
    if holds cond rs1 rs2 s then frag_run g taken w (tested s) else frag_run g other w (tested s)
frag_run g (While cond rs1 rs2 body) w s = turns w (holds cond rs1 rs2) (frag_run g body w) s
