-- What loads and stores move (RISC-V unprivileged manual, section "Load and Store Instructions").
-- Numbers stand in memory with their lowest byte first.
use Rattle.std.specs.Prelude.{ℕ, zero, suc, ◌+◌, ◌*◌, ◌/◌, ◌%◌, List, [], ◌∷◌}
use Rattle.rv_isa.specs.declared.Width.{Width}
use Rattle.rv_isa.specs.declared.Width.TheVariants.{Byte, Half, Word, ByteU, HalfU}
use Rattle.rv_isa.specs.Words.{extended}

-- the number of some bytes, and the lowest n bytes of a number
abbrev pub number_of : List ℕ → ℕ
number_of [] = 0
number_of (b ∷ bs) = b + 256 * number_of bs

abbrev pub low_bytes : ℕ → ℕ → List ℕ
low_bytes zero v = []
low_bytes (suc n) v = v % 256 ∷ low_bytes n (v / 256)

-- how many bytes are moved
abbrev pub size_of : Width → ℕ
size_of Byte = 1
size_of Half = 2
size_of Word = 4
size_of ByteU = 1
size_of HalfU = 2

-- what a load makes of the number that it reads
abbrev pub loaded_as : Width → ℕ → ℕ
loaded_as Byte v = extended 8 v
loaded_as Half v = extended 16 v
loaded_as Word v = v
loaded_as ByteU v = v
loaded_as HalfU v = v
