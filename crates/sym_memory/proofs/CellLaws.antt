-- Where no cells are, nothing is reached.
use Rattle.std.proofs.Common.{◌≡◌, ℕ, ◌*◌, List, [], ◌∷◌, length, arith}
use Rattle.rv_isa.specs.declared.Width.{Width}
use Rattle.rv_isa.specs.declared.Width.TheVariants.{Byte, Half, Word, ByteU, HalfU}
use Rattle.sym_cells.specs.Cells.{Cell}
use Rattle.cell_buffer.specs.Entries.{IsAccess}

pub none_there : (width : Width) (o : ℕ) (cells : List Cell) → IsAccess width o (4 * length cells) → cells ≡ [] → ⊥
none_there Byte o [] h e = let k = h.1 in omega (arith, k)
none_there Half o [] h e = let k = h.1 in omega (arith, k)
none_there Word o [] h e = let k = h.1 in omega (arith, k)
none_there ByteU o [] h e = let k = h.1 in omega (arith, k)
none_there HalfU o [] h e = let k = h.1 in omega (arith, k)
none_there width o (c ∷ cells) h e = absurd (cc)
