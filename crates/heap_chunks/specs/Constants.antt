-- Constants in registers: by one operation where they are immediates, else by the two words of Set.
use Rattle.std.specs.Prelude.{ℕ, ◌-◌, ◌%◌, ◌^◌, nat_lt, if◌then◌else◌}
use Rattle.rv_isa.specs.declared.Op.TheVariants.{Add, Sub}
use Rattle.frag_code.specs.Fragments.{Fragment, Set, Compute, Imm, Seq}

-- a register becomes a constant
abbrev pub constant : (rd v : ℕ) → Fragment
constant rd v = if nat_lt v 2048 then Imm Add rd 0 v else Set rd v

-- a register becomes another and a constant, which may go through a third
abbrev pub plus_constant : (rd rs spare v : ℕ) → Fragment
plus_constant rd rs spare v = if nat_lt v 2048 then Imm Add rd rs v else Seq (Set spare v) (Compute Add rd rs spare)

-- a register becomes another less a constant, which may go through a third
abbrev pub minus_constant : (rd rs spare v : ℕ) → Fragment
minus_constant rd rs spare v = if nat_lt (v - 1) 2048 then Imm Add rd rs ((2 ^ 32 - v) % 2 ^ 32) else Seq
    (Set spare v) (Compute Sub rd rs spare)
