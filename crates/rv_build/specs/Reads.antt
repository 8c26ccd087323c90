-- What a reader finds in a built file: the entry, the segment, the sections, and in them the words of the
-- code and the relocation entries that the builder was given (gABI, "ELF Header", "Program Header",
-- "Section Header", "Relocation").
use Rattle.std.specs.Prelude.{◌≡◌, ℕ, ◌+◌, ◌<◌, List, [], ◌∷◌, length, All}
use Rattle.elf_spec.specs.Fields.{word_at}
use Rattle.elf_spec.specs.Records.{e_entry, e_shnum, e_shoff, entries, reloc_at, sections_of, segments_of}
use Rattle.rv_build.specs.Parts.{Parts}
use Rattle.rv_build.specs.Built.{code_segment, relocs_at, sections_at, sections_built}

pub record Reads (p : Parts) (file : List ℕ) : Type 0 where
  pub entry : e_entry file ≡ 65792
  -- the five section headers stand at the end
  pub table : (e_shoff file ≡ sections_at p) × (e_shnum file ≡ 5)
  pub size : length file ≡ sections_at p + 200
  pub segments : segments_of file ≡ code_segment p ∷ []
  pub sections : sections_of file ≡ sections_built p
  pub code : entries (word_at file) 4 256 (length p.words) ≡ p.words
  -- the type of an entry is a byte
  pub relocs : All (λ r. r.kind < 256) p.relocs → entries (reloc_at file) 12 (relocs_at p) (length p.relocs) ≡ p.relocs
