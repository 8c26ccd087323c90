-- The code of a stub: it sets the site's bit of x4, calls the site's target, clears the bit and goes
-- to the site's return address (RISC-V unprivileged manual; x1 is ra).
use Rattle.std.specs.Prelude.{ℕ, ◌-◌, ◌^◌, List, [], ◌∷◌, map}
use Rattle.rv_isa.specs.declared.Instr.{Instr}
use Rattle.rv_isa.specs.declared.Instr.TheVariants.{Auipc, Jalr, OpImm, Reg}
use Rattle.rv_isa.specs.declared.Op.TheVariants.{Add, Sll, Or, Xor, And}
use Rattle.rv_isa.specs.Encoded.{encoded}
use Rattle.rv_isa.specs.Split.{split_of}
use Rattle.rv_isa.specs.Addresses.{plus, minus}

-- the eleven instructions of the stub at an address, for a bit, a target and a return address
abbrev pub stub : (at bit target back : ℕ) → List Instr
stub at bit target back =
    OpImm Add 1 0 1  -- ra = 1
    ∷ OpImm Sll 1 1 bit  -- ra = the bit
    ∷ Reg Or 4 4 1  -- x4 has the bit
    ∷ Auipc 1 (split_of (minus target (plus at 12))).0
    ∷ Jalr 1 1 (split_of (minus target (plus at 12))).1  -- the call, which comes back to at + 20
    ∷ OpImm Add 1 0 1
    ∷ OpImm Sll 1 1 bit
    ∷ OpImm Xor 1 1 (2 ^ 32 - 1)  -- ra = all bits but this one
    ∷ Reg And 4 4 1  -- x4 lacks the bit
    ∷ Auipc 1 (split_of (minus back (plus at 36))).0
    ∷ Jalr 0 1 (split_of (minus back (plus at 36))).1  -- to the return address
    ∷ []

abbrev pub stub_words : (at bit target back : ℕ) → List ℕ
stub_words at bit target back = map encoded (stub at bit target back)
