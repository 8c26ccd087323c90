-- The file of the generated program is short, and none of its tables lies over the fields of the file header that
-- change.
use Rattle.std.proofs.Common.{◌≡◌, ◌∙◌, ℕ, ◌+◌, ◌<◌, ◌≤◌, ◌⊎◌, inr, List, length, Some, refl, sym, ap, subst, arith}
use Rattle.std.proofs.Common.{find}
use Rattle.elf_spec.specs.declared.Section.{Section}
use Rattle.elf_spec.specs.Records.{sections_of}
use Rattle.elf_spec.specs.Tables.{is_symtab, strings_of}
use Rattle.elf_write.specs.Kept.{AreFieldsAlone}
use Rattle.rv_build.specs.Parts.{Parts}
use Rattle.rv_build.specs.Built.{symbols_at, strings_at, strings_size, sections_at, symbols_section, strings_section}
use Rattle.rv_build.specs.Reads.{Reads}
use Rattle.rv_build.specs.Generated.{instructions, program}

-- a byte is none of a field's
abbrev IsBeside : ℕ → ℕ → ℕ → Type 0
IsBeside place n i = (i < place) ⊎ (place + n ≤ i)

-- a byte from 256 on is none of the two fields'
beside : (at k : ℕ) → 256 ≤ at → IsBeside 28 4 (at + k) × IsBeside 44 2 (at + k)
beside at k high = (inr (omega (arith, high)), inr (omega (arith, high)))

high_tables : (p : Parts) → (256 ≤ symbols_at p) × (256 ≤ strings_at p) × (256 ≤ sections_at p)
high_tables p = (omega arith, omega arith, omega arith)

module _ (p : Parts) (file : List ℕ) (reads : Reads p file) where
  symbols_is : (t : Section) → find is_symtab (sections_of file) ≡ Some t → t ≡ symbols_section p
  symbols_is t is =
      let there : Some (symbols_section p) ≡ Some t = sym (ap (find is_symtab) reads.sections) ∙ is in cc

  strings_is : (s : Section) → strings_of (sections_of file) (find is_symtab (sections_of file)) ≡ Some s
      → s ≡ strings_section p
  strings_is s is =
      let there : Some (strings_section p) ≡ Some s =
      sym (ap (λ (ss : List Section). strings_of ss (find is_symtab ss)) reads.sections) ∙ is in cc

  pub fields_alone : AreFieldsAlone file
  fields_alone = record {
    sections = λ k within. subst (λ at. IsBeside 28 4 (at + k) × IsBeside 44 2 (at + k)) (sym reads.table.0)
        (beside (sections_at p) k (high_tables p).2);
    symbols = λ t is k within. subst (λ (s : Section). IsBeside 28 4 (s.offset + k) × IsBeside 44 2 (s.offset + k))
        (sym (symbols_is t is)) (beside (symbols_at p) k (high_tables p).0);
    strings = λ s is k within. subst (λ (u : Section). IsBeside 28 4 (u.offset + k) × IsBeside 44 2 (u.offset + k))
        (sym (strings_is s is)) (beside (strings_at p) k (high_tables p).1);
  }

-- the code has 55 words, however many nodes there are
words_of : (nodes : ℕ) → length (program nodes).words ≡ 55
unfolding program instructions
words_of nodes = refl

parts_of : (nodes : ℕ) → (length (program nodes).relocs ≡ 5) × (length (program nodes).symbols ≡ 4)
    × (strings_size (program nodes) ≡ 57)
unfolding program
parts_of nodes = (refl, refl, refl)

pub short_file : (nodes : ℕ) (file : List ℕ) → Reads (program nodes) file → length file ≤ 33554432
short_file nodes file reads =
    let words : length (program nodes).words ≡ 55 = words_of nodes in
    let parts = parts_of nodes in
    let size : length file ≡ sections_at (program nodes) + 200 = reads.size in
    omega (arith, words, parts.0, parts.1, parts.2, size)
