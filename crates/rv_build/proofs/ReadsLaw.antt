-- A reader finds in a built file what the builder was given.
use Rattle.std.proofs.Common.{◌≡◌, ℕ, ◌+◌, ◌-◌, ◌*◌, List, [], ◌∷◌, ◌++◌, length, replicate, refl, sym, ap, ◌∙◌, subst}
use Rattle.std.proofs.Common.{append_assoc, append-nil, arith}
use Rattle.std.specs.Prelude.{flat_map}
use Rattle.std.proofs.lemmas.List.{length-append, length-replicate}
use Rattle.elf_spec.specs.Fields.{half_at, word_at, word_bytes}
use Rattle.elf_spec.specs.Records.{entries, reloc_at, section_at, segment_at}
use Rattle.rv_build.specs.declared.labels.Label.{Label}
use Rattle.rv_build.specs.Parts.{Parts}
use Rattle.rv_build.specs.RecordBytes.{half_bytes, reloc_bytes, section_bytes, segment_bytes, symbol_bytes}
use Rattle.rv_build.specs.Built.{built_file, code_segment, ended, file_header, identification, relocs_at, section_names}
use Rattle.rv_build.specs.Built.{sections_at, sections_built, strings_at, strings_size, symbol_entries, symbol_names}
use Rattle.rv_build.specs.Built.{table_sizes}
use Rattle.rv_build.specs.Reads.{Reads}
use Rattle.rv_build.proofs.ReadBack.{length-records, length-reloc, length-section, length-segment, length-word}
use Rattle.rv_build.proofs.ReadBack.{relocs_read, sections_read, segment_back, words_read}

-- the fields of the file header
length-header : (n : ℕ) → length (file_header n) ≡ 52
unfolding file_header identification table_sizes half_bytes word_bytes
length-header n = refl

header_entry : (n : ℕ) (rest : List ℕ) → word_at (file_header n ++ rest) 24 ≡ 65792
unfolding file_header identification table_sizes half_bytes word_bytes word_at
header_entry n rest = refl

header_phoff : (n : ℕ) (rest : List ℕ) → word_at (file_header n ++ rest) 28 ≡ 52
unfolding file_header identification table_sizes half_bytes word_bytes word_at
header_phoff n rest = refl

header_phnum : (n : ℕ) (rest : List ℕ) → half_at (file_header n ++ rest) 44 ≡ 1
unfolding file_header identification table_sizes half_bytes word_bytes half_at
header_phnum n rest = refl

header_shoff : (n : ℕ) (rest : List ℕ) → word_at (file_header n ++ rest) 32 ≡ n
unfolding file_header identification table_sizes half_bytes word_bytes word_at
header_shoff n rest = omega arith

header_shnum : (n : ℕ) (rest : List ℕ) → half_at (file_header n ++ rest) 48 ≡ 5
unfolding file_header identification table_sizes half_bytes word_bytes half_at
header_shnum n rest = refl

-- the lengths of the parts
length-symbol : (name : ℕ) (s : Label) → length (symbol_bytes name s) ≡ 16
unfolding symbol_bytes word_bytes half_bytes
length-symbol name s = refl

length-symbols : (ss : List Label) (name : ℕ) → length (symbol_entries name ss) ≡ 16 * length ss
length-symbols [] name = refl
length-symbols (s ∷ ss) name =
    let e : length (symbol_bytes name s) ≡ 16 = length-symbol name s in
    let f : length (symbol_entries (name + length (ended s.name)) ss) ≡ 16 * length ss =
    length-symbols ss (name + length (ended s.name)) in
    length-append (symbol_bytes name s) (symbol_entries (name + length (ended s.name)) ss) ∙ omega arith

length-section_names : length section_names ≡ 34
length-section_names = refl

-- the parts in front of the code, the entries and the section headers
abbrev front : Parts → List ℕ
front p = (file_header (sections_at p) ++ segment_bytes (code_segment p)) ++ replicate 172 0

abbrev code : Parts → List ℕ
code p = flat_map word_bytes p.words

abbrev relocs : Parts → List ℕ
relocs p = flat_map reloc_bytes p.relocs

abbrev fill : Parts → List ℕ
fill p = replicate (sections_at p - (strings_at p + strings_size p)) 0

abbrev tables : Parts → List ℕ
tables p = replicate 16 0 ++ (symbol_entries 34 p.symbols ++ (section_names ++ (symbol_names p.symbols ++ fill p)))

abbrev headers : Parts → List ℕ
headers p = flat_map section_bytes (sections_built p)

length-front : (p : Parts) → length (front p) ≡ 256
length-front p =
    let a : length (file_header (sections_at p)) ≡ 52 = length-header (sections_at p) in
    let b : length (segment_bytes (code_segment p)) ≡ 32 = length-segment (code_segment p) in
    let c : length (replicate {A = ℕ} 172 0) ≡ 172 = length-replicate {A = ℕ} 172 0 in
    let d : length (file_header (sections_at p) ++ segment_bytes (code_segment p)) ≡ 84 =
    length-append (file_header (sections_at p)) (segment_bytes (code_segment p)) ∙ omega arith in
    length-append (file_header (sections_at p) ++ segment_bytes (code_segment p)) (replicate 172 0) ∙ omega arith

length-through_code : (p : Parts) → length (front p ++ code p) ≡ relocs_at p
length-through_code p =
    let a : length (front p) ≡ 256 = length-front p in
    let b : length (code p) ≡ 4 * length p.words = length-records word_bytes 4 length-word p.words in
    length-append (front p) (code p) ∙ omega arith

length-tables : (p : Parts) → relocs_at p + 12 * length p.relocs + length (tables p) ≡ sections_at p
length-tables p =
    let a : length (replicate {A = ℕ} 16 0) ≡ 16 = length-replicate {A = ℕ} 16 0 in
    let b : length (symbol_entries 34 p.symbols) ≡ 16 * length p.symbols = length-symbols p.symbols 34 in
    let c : length section_names ≡ 34 = length-section_names in
    let d : length (fill p) ≡ sections_at p - (strings_at p + strings_size p) =
    length-replicate {A = ℕ} (sections_at p - (strings_at p + strings_size p)) 0 in
    let e : length (symbol_names p.symbols ++ fill p) ≡ length (symbol_names p.symbols) + length (fill p) =
    length-append (symbol_names p.symbols) (fill p) in
    let f : length (section_names ++ (symbol_names p.symbols ++ fill p))
    ≡ length section_names + length (symbol_names p.symbols ++ fill p) =
    length-append section_names (symbol_names p.symbols ++ fill p) in
    let g : length (symbol_entries 34 p.symbols ++ (section_names ++ (symbol_names p.symbols ++ fill p)))
    ≡ length (symbol_entries 34 p.symbols) + length (section_names ++ (symbol_names p.symbols ++ fill p)) =
    length-append (symbol_entries 34 p.symbols) (section_names ++ (symbol_names p.symbols ++ fill p)) in
    let h : length (tables p) ≡ 16 + length (symbol_entries 34 p.symbols
    ++ (section_names ++ (symbol_names p.symbols ++ fill p))) =
    length-append (replicate 16 0) (symbol_entries 34 p.symbols
    ++ (section_names ++ (symbol_names p.symbols ++ fill p))) ∙ omega arith in
    omega arith

length-through_tables : (p : Parts) → length ((front p ++ code p) ++ (relocs p ++ tables p)) ≡ sections_at p
length-through_tables p =
    let a : length (front p ++ code p) ≡ relocs_at p = length-through_code p in
    let b : length (relocs p) ≡ 12 * length p.relocs = length-records reloc_bytes 12 length-reloc p.relocs in
    let c : length (relocs p ++ tables p) ≡ length (relocs p) + length (tables p) =
    length-append (relocs p) (tables p) in
    let d : relocs_at p + 12 * length p.relocs + length (tables p) ≡ sections_at p = length-tables p in
    length-append (front p ++ code p) (relocs p ++ tables p) ∙ omega arith

-- the file in front of and from these parts on
abbrev behind_header : Parts → List ℕ
behind_header p = segment_bytes (code_segment p) ++ (replicate 172 0
    ++ (code p ++ (relocs p ++ (tables p ++ headers p))))

all_parts : (f c r n e s m l t : List ℕ) → (((((((f ++ c) ++ r) ++ n) ++ e) ++ s) ++ m) ++ l) ++ t ≡ f
    ++ (c ++ (r ++ ((n ++ (e ++ (s ++ (m ++ l)))) ++ t)))
all_parts f c r n e s m l t = simp append_assoc

front_parts : (h s z x : List ℕ) → ((h ++ s) ++ z) ++ x ≡ h ++ (s ++ (z ++ x))
front_parts h s z x = simp append_assoc

last_parts : (a r t h : List ℕ) → a ++ (r ++ (t ++ h)) ≡ (a ++ (r ++ t)) ++ (h ++ [])
last_parts a r t h =
    ap (λ x. a ++ x) (sym (append_assoc r t h)) ∙ (sym (append_assoc a (r ++ t) h)
    ∙ ap (λ x. (a ++ (r ++ t)) ++ x) (sym (append-nil h)))

from_code : (p : Parts) → built_file p ≡ front p ++ (code p ++ (relocs p ++ (tables p ++ headers p)))
unfolding built_file
from_code p = all_parts (front p) (code p) (relocs p) (replicate 16 0) (symbol_entries 34 p.symbols) section_names
    (symbol_names p.symbols) (fill p) (headers p)

from_header : (p : Parts) → built_file p ≡ file_header (sections_at p) ++ behind_header p
from_header p = from_code p ∙ front_parts (file_header (sections_at p)) (segment_bytes (code_segment p))
    (replicate 172 0) (code p ++ (relocs p ++ (tables p ++ headers p)))

from_relocs : (p : Parts) → built_file p ≡ (front p ++ code p) ++ (relocs p ++ (tables p ++ headers p))
from_relocs p = from_code p ∙ sym (append_assoc (front p) (code p) (relocs p ++ (tables p ++ headers p)))

from_headers : (p : Parts) → built_file p ≡ ((front p ++ code p) ++ (relocs p ++ tables p)) ++ (headers p ++ [])
from_headers p = from_relocs p ∙ last_parts (front p ++ code p) (relocs p) (tables p) (headers p)

pub reads_back : (p : Parts) → Reads p (built_file p)
reads_back p = record {
  entry = rw (from_header p) (header_entry (sections_at p) (behind_header p));
  table = (
    rw (from_header p) (header_shoff (sections_at p) (behind_header p)),
    rw (from_header p) (header_shnum (sections_at p) (behind_header p)),
  );
  size =
      let before : List ℕ = (front p ++ code p) ++ (relocs p ++ tables p) in
      let a : length before ≡ sections_at p = length-through_tables p in
      let b : length (headers p) ≡ 40 * length (sections_built p) =
      length-records section_bytes 40 length-section (sections_built p) in
      let c : length (headers p ++ []) ≡ length (headers p) = ap length (append-nil (headers p)) in
      ap length (from_headers p) ∙ (length-append before (headers p ++ []) ∙ omega (arith, a, b, c));
  segments =
      let file : List ℕ = file_header (sections_at p) ++ behind_header p in
      let place : word_at file 28 ≡ 52 = header_phoff (sections_at p) (behind_header p) in
      let count : half_at file 44 ≡ 1 = header_phnum (sections_at p) (behind_header p) in
      let here : segment_at file 52 ≡ code_segment p =
      subst (λ n. segment_at file n ≡ code_segment p) (length-header (sections_at p))
      (segment_back (code_segment p) (file_header (sections_at p))
      (replicate 172 0 ++ (code p ++ (relocs p ++ (tables p ++ headers p))))) in
      subst (λ f. entries (segment_at f) 32 (word_at f 28) (half_at f 44) ≡ code_segment p ∷ []) (sym (from_header p))
      (ap (λ at. entries (segment_at file) 32 at (half_at file 44)) place
      ∙ (ap (entries (segment_at file) 32 52) count ∙ ap (λ s. s ∷ []) here));
  sections =
      let place : word_at (built_file p) 32 ≡ sections_at p =
      rw (from_header p) (header_shoff (sections_at p) (behind_header p)) in
      let count : half_at (built_file p) 48 ≡ 5 = rw (from_header p) (header_shnum (sections_at p) (behind_header p)) in
      let read : entries (section_at (built_file p)) 40 (sections_at p) 5 ≡ sections_built p =
      subst (λ f. entries (section_at f) 40 (sections_at p) 5 ≡ sections_built p) (sym (from_headers p))
      (sections_read (sections_built p) (sections_at p) ((front p ++ code p) ++ (relocs p ++ tables p)) []
      (length-through_tables p)) in
      ap (λ at. entries (section_at (built_file p)) 40 at (half_at (built_file p) 48)) place
      ∙ (ap (entries (section_at (built_file p)) 40 (sections_at p)) count ∙ read);
  code = subst (λ f. entries (word_at f) 4 256 (length p.words) ≡ p.words) (sym (from_code p))
      (words_read p.words 256 (front p) (relocs p ++ (tables p ++ headers p)) (length-front p));
  relocs = λ w. subst (λ f. entries (reloc_at f) 12 (relocs_at p) (length p.relocs) ≡ p.relocs) (sym (from_relocs p))
      (relocs_read p.relocs (relocs_at p) (front p ++ code p) (tables p ++ headers p) (length-through_code p) w);
}
