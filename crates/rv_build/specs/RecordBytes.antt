-- The bytes of the records of a file (gABI, "Data Encoding", "Program Header", "Section Header",
-- "Relocation", "Symbol Table").
use Rattle.std.specs.Prelude.{ℕ, ◌+◌, ◌*◌, ◌/◌, ◌%◌, List, [], ◌∷◌, ◌++◌}
use Rattle.elf_spec.specs.declared.Segment.{Segment}
use Rattle.elf_spec.specs.declared.Section.{Section}
use Rattle.elf_spec.specs.declared.Reloc.{Reloc}
use Rattle.elf_spec.specs.Fields.{word_bytes}
use Rattle.rv_build.specs.declared.labels.Label.{Label}

-- the two bytes of a number below 2^16
unfoldable pub half_bytes : ℕ → List ℕ
half_bytes n = n % 256 ∷ n / 256 ∷ []

unfoldable pub segment_bytes : Segment → List ℕ
segment_bytes s =
    word_bytes s.kind ++ word_bytes s.offset ++ word_bytes s.vaddr ++ word_bytes s.paddr ++ word_bytes s.file_size
    ++ word_bytes s.mem_size ++ word_bytes s.flags ++ word_bytes s.align

unfoldable pub section_bytes : Section → List ℕ
section_bytes s =
    word_bytes s.name ++ word_bytes s.kind ++ word_bytes s.flags ++ word_bytes s.addr ++ word_bytes s.offset
    ++ word_bytes s.size ++ word_bytes s.link ++ word_bytes s.info ++ word_bytes s.align ++ word_bytes s.entry_size

-- an entry with addend 0
unfoldable pub reloc_bytes : Reloc → List ℕ
reloc_bytes r = word_bytes r.place ++ word_bytes (256 * r.symbol + r.kind) ++ word_bytes 0

-- a GLOBAL FUNC (0x12) of section 1, whose name stands at this offset of the strings
unfoldable pub symbol_bytes : ℕ → Label → List ℕ
symbol_bytes name s = word_bytes name ++ word_bytes s.at ++ word_bytes s.size ++ 18 ∷ 0 ∷ half_bytes 1
