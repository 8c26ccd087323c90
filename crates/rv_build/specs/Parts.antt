-- The parts of a small linked executable: its words of code, its symbols and its relocation entries.
use Rattle.std.specs.Prelude.{ℕ, ◌^◌, ◌<◌, ◌≤◌, List, [], ◌∷◌, ◌++◌, length, All}
use Rattle.elf_spec.specs.declared.Reloc.{Reloc}
use Rattle.rv_build.specs.declared.labels.Label.{Label}

pub record Parts : Type 0 where
  pub words : List ℕ
  pub symbols : List Label
  pub relocs : List Reloc

abbrev pub no_parts : Parts
no_parts = record { words = []; symbols = []; relocs = [] }

-- the parts with one more at the end
abbrev pub with_word : Parts → ℕ → Parts
with_word p w = record { words = p.words ++ w ∷ []; symbols = p.symbols; relocs = p.relocs }

abbrev pub with_symbol : Parts → Label → Parts
with_symbol p s = record { words = p.words; symbols = p.symbols ++ s ∷ []; relocs = p.relocs }

abbrev pub with_reloc : Parts → Reloc → Parts
with_reloc p r = record { words = p.words; symbols = p.symbols; relocs = p.relocs ++ r ∷ [] }

-- the parts with more at the end
abbrev pub with_code : Parts → List ℕ → Parts
with_code p ws = record { words = p.words ++ ws; symbols = p.symbols; relocs = p.relocs }

abbrev pub with_symbols : Parts → List Label → Parts
with_symbols p ss = record { words = p.words; symbols = p.symbols ++ ss; relocs = p.relocs }

abbrev pub with_relocs : Parts → List Reloc → Parts
with_relocs p rs = record { words = p.words; symbols = p.symbols; relocs = p.relocs ++ rs }

-- the parts are few and small enough for a file of at most 9 million bytes, and the symbol of each
-- entry has at most 24 bits (psABI, "Relocations": the index in r_info)
pub record AreSmall (p : Parts) : Type 0 where
  pub words : length p.words ≤ 2000000
  pub symbols : length p.symbols ≤ 1000
  pub names : All (λ s. length s.name ≤ 64) p.symbols
  pub relocs : length p.relocs ≤ 10000
  pub indices : All (λ r. r.symbol < 2 ^ 24) p.relocs
