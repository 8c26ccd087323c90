use Rattle.std.proofs.Common.{arith}
use Rattle.cell_buffer.proofs.loads.load_in.Goals as goal

pub word_at-requires-clause-inside : goal.word_at-requires-clause-inside
word_at-requires-clause-inside c = rw c.in-Word.is at c.requires.access.1

pub byte_at-requires-clause-inside : goal.byte_at-requires-clause-inside
byte_at-requires-clause-inside c = let h = rw c.in-Half.is at c.requires.access.1 in omega (arith, h)

pub byte_at-requires-in-Half-clause-inside : goal.byte_at-requires-in-Half-clause-inside
byte_at-requires-in-Half-clause-inside c = let h = rw c.in-Half.is at c.requires.access.1 in omega (arith, h)

pub byte_at-requires-in-HalfU-clause-inside : goal.byte_at-requires-in-HalfU-clause-inside
byte_at-requires-in-HalfU-clause-inside c = let h = rw c.in-HalfU.is at c.requires.access.1 in omega (arith, h)

pub byte_at-requires-in-HalfU-2-clause-inside : goal.byte_at-requires-in-HalfU-2-clause-inside
byte_at-requires-in-HalfU-2-clause-inside c = let h = rw c.in-HalfU.is at c.requires.access.1 in omega (arith, h)

pub byte_at-requires-in-Byte-clause-inside : goal.byte_at-requires-in-Byte-clause-inside
byte_at-requires-in-Byte-clause-inside c = let h = rw c.in-Byte.is at c.requires.access.1 in omega (arith, h)

pub byte_at-requires-in-ByteU-clause-inside : goal.byte_at-requires-in-ByteU-clause-inside
byte_at-requires-in-ByteU-clause-inside c = let h = rw c.in-ByteU.is at c.requires.access.1 in omega (arith, h)
