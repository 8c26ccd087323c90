use Rattle.std.proofs.Common.{arith}
use Rattle.cell_buffer.proofs.stores.store_in.Goals as goal

pub store_word-requires-clause-inside : goal.store_word-requires-clause-inside
store_word-requires-clause-inside c = rw c.in-Word.is at c.requires.access.1

pub store_half-requires-clause-inside : goal.store_half-requires-clause-inside
store_half-requires-clause-inside c = rw c.in-Half.is at c.requires.access.1

pub store_half-requires-in-HalfU-clause-inside : goal.store_half-requires-in-HalfU-clause-inside
store_half-requires-in-HalfU-clause-inside c = rw c.in-HalfU.is at c.requires.access.1

pub store_byte-requires-clause-inside : goal.store_byte-requires-clause-inside
store_byte-requires-clause-inside c = let h = rw c.in-Byte.is at c.requires.access.1 in omega (arith, h)

pub store_byte-requires-in-ByteU-clause-inside : goal.store_byte-requires-in-ByteU-clause-inside
store_byte-requires-in-ByteU-clause-inside c = let h = rw c.in-ByteU.is at c.requires.access.1 in omega (arith, h)
