-- Records that are written one after the other are read back.
use Rattle.std.proofs.Common.{◌≡◌, ℕ, suc, ◌+◌, ◌*◌, ◌/◌, ◌%◌, ◌^◌, ◌<◌, List, [], ◌∷◌, ◌++◌, length, refl, sym, ap}
use Rattle.std.proofs.Common.{◌∙◌, subst, append_assoc, arith}
use Rattle.std.specs.Prelude.{slice_index, flat_map}
use Rattle.std.specs.List.{All}
use Rattle.std.proofs.lemmas.List.{get_or-append-add, length-append}
use Rattle.elf_spec.specs.declared.Segment.{Segment}
use Rattle.elf_spec.specs.declared.Section.{Section}
use Rattle.elf_spec.specs.declared.Reloc.{Reloc}
use Rattle.elf_spec.specs.Fields.{word_at, word_bytes}
use Rattle.elf_spec.specs.Records.{entries, reloc_at, section_at, segment_at}
use Rattle.elf_spec.proofs.Entries.{entries_first}
use Rattle.rv_build.specs.RecordBytes.{reloc_bytes, section_bytes, segment_bytes}

-- `All` over a list that begins with an element
all_head : {A : Type 0} (P : A → Type 0) (x : A) (xs : List A) → All P (x ∷ xs) → P x
all_head P x xs w = w 0 x (omega arith)

all_tail : {A : Type 0} (P : A → Type 0) (x : A) (xs : List A) → All P (x ∷ xs) → All P xs
all_tail P x xs w = λ k d m. w (suc k) d (omega arith)

-- a word behind other bytes
word_behind : (pre ys : List ℕ) (o : ℕ) → word_at (pre ++ ys) (length pre + o) ≡ word_at ys o
unfolding word_at
word_behind pre ys o =
    let byte : (i : ℕ) → slice_index (pre ++ ys) (length pre + i) ≡ slice_index ys i =
    λ i. get_or-append-add pre ys i 0 in
    let s1 : length pre + (o + 1) ≡ length pre + o + 1 = omega arith in
    let s2 : length pre + (o + 2) ≡ length pre + o + 2 = omega arith in
    let s3 : length pre + (o + 3) ≡ length pre + o + 3 = omega arith in
    let e0 : slice_index (pre ++ ys) (length pre + o) ≡ slice_index ys o = byte o in
    let e1 : slice_index (pre ++ ys) (length pre + o + 1) ≡ slice_index ys (o + 1) =
    subst (λ n. slice_index (pre ++ ys) n ≡ slice_index ys (o + 1)) s1 (byte (o + 1)) in
    let e2 : slice_index (pre ++ ys) (length pre + o + 2) ≡ slice_index ys (o + 2) =
    subst (λ n. slice_index (pre ++ ys) n ≡ slice_index ys (o + 2)) s2 (byte (o + 2)) in
    let e3 : slice_index (pre ++ ys) (length pre + o + 3) ≡ slice_index ys (o + 3) =
    subst (λ n. slice_index (pre ++ ys) n ≡ slice_index ys (o + 3)) s3 (byte (o + 3)) in
    rw (e0, e1, e2, e3) refl

word_first : (pre ys : List ℕ) → word_at (pre ++ ys) (length pre) ≡ word_at ys 0
word_first pre ys = let z : length pre + 0 ≡ length pre = omega arith in
    subst (λ n. word_at (pre ++ ys) n ≡ word_at ys 0) z (word_behind pre ys 0)

segment_behind : (pre ys : List ℕ) → segment_at (pre ++ ys) (length pre) ≡ segment_at ys 0
unfolding segment_at
segment_behind pre ys =
    rw (
      word_first pre ys,
      word_behind pre ys 4,
      word_behind pre ys 8,
      word_behind pre ys 12,
      word_behind pre ys 16,
      word_behind pre ys 20,
      word_behind pre ys 24,
      word_behind pre ys 28,
    ) refl

section_behind : (pre ys : List ℕ) → section_at (pre ++ ys) (length pre) ≡ section_at ys 0
unfolding section_at
section_behind pre ys =
    rw (
      word_first pre ys,
      word_behind pre ys 4,
      word_behind pre ys 8,
      word_behind pre ys 12,
      word_behind pre ys 16,
      word_behind pre ys 20,
      word_behind pre ys 24,
      word_behind pre ys 28,
      word_behind pre ys 32,
      word_behind pre ys
          36,
    ) refl

reloc_behind : (pre ys : List ℕ) → reloc_at (pre ++ ys) (length pre) ≡ reloc_at ys 0
unfolding reloc_at
reloc_behind pre ys = rw (word_first pre ys, word_behind pre ys 4) refl

-- a number is what its four bytes add up to
word_back : (n : ℕ) → n % 256 + n / 256 % 256 * 2 ^ 8 + n / 65536 % 256 * 2 ^ 16 + n / 16777216 * 2 ^ 24 ≡ n
word_back n = omega arith

word_read : (n : ℕ) (post : List ℕ) → word_at (word_bytes n ++ post) 0 ≡ n
unfolding word_at word_bytes
word_read n post = word_back n

segment_read : (s : Segment) (post : List ℕ) → segment_at (segment_bytes s ++ post) 0 ≡ s
unfolding segment_at segment_bytes word_at word_bytes
segment_read s post = rw (
  word_back s.kind,
  word_back s.offset,
  word_back s.vaddr,
  word_back s.paddr,
  word_back
      s.file_size,
  word_back s.mem_size,
  word_back s.flags,
  word_back s.align,
) refl

section_read : (s : Section) (post : List ℕ) → section_at (section_bytes s ++ post) 0 ≡ s
unfolding section_at section_bytes word_at word_bytes
section_read s post =
    rw (
      word_back s.name,
      word_back s.kind,
      word_back s.flags,
      word_back s.addr,
      word_back s.offset,
      word_back s.size,
      word_back s.link,
      word_back s.info,
      word_back s.align,
      word_back s.entry_size,
    ) refl

reloc_read : (r : Reloc) (post : List ℕ) → r.kind < 256 → reloc_at (reloc_bytes r ++ post) 0 ≡ r
unfolding reloc_at reloc_bytes word_at word_bytes
reloc_read r post l =
    let kind : (256 * r.symbol + r.kind) % 256 ≡ r.kind = omega arith in
    let symbol : (256 * r.symbol + r.kind) / 256 ≡ r.symbol = omega arith in
    rw (word_back r.place, word_back (256 * r.symbol + r.kind), kind, symbol) refl

-- records that are written one after the other are read back, wherever they stand
records_read : {A : Type 0} (read : List ℕ → ℕ → A) (write : A → List ℕ) (size : ℕ) (P : A → Type 0)
    → ((pre ys : List ℕ) → read (pre ++ ys) (length pre) ≡ read ys 0)
    → ((x : A) (post : List ℕ) → P x → read (write x ++ post) 0 ≡ x) → ((x : A) → length (write x) ≡ size)
    → (xs : List A) (at : ℕ) (pre post : List ℕ) → length pre ≡ at → All P xs
    → entries (read (pre ++ (flat_map write xs ++ post))) size at (length xs) ≡ xs
records_read read write size P behind back long [] at pre post l w = refl
records_read read write size P behind back long (x ∷ xs) at pre post l w =
    let first : List ℕ = write x in
    let rest : List ℕ = flat_map write xs in
    let all : List ℕ = pre ++ ((first ++ rest) ++ post) in
    let same : all ≡ (pre ++ first) ++ (rest ++ post) = simp append_assoc in
    let longer : length (pre ++ first) ≡ at + size = length-append pre first
    ∙ (let e : length first ≡ size = long x in omega arith) in
    let others : entries (read all) size (at + size) (length xs) ≡ xs =
    subst (λ f. entries (read f) size (at + size) (length xs) ≡ xs) (sym same)
    (records_read read write size P behind back long xs (at + size) (pre ++ first) post longer
    (all_tail P x xs w)) in
    let here : read all at ≡ x =
    subst (λ n. read all n ≡ x) l (behind pre ((first ++ rest) ++ post)
    ∙ (ap (λ f. read f 0) (append_assoc first rest post) ∙ back x (rest ++ post) (all_head P x xs w))) in
    entries_first (read all) size at (length xs) ∙ cc

pub length-records : {A : Type 0} (write : A → List ℕ) (size : ℕ) → ((x : A) → length (write x) ≡ size) → (xs : List A)
    → length (flat_map write xs) ≡ size * length xs
length-records write size long [] = omega arith
length-records write size long (x ∷ xs) =
    let e : length (write x) ≡ size = long x in
    let f : length (flat_map write xs) ≡ size * length xs = length-records write size long xs in
    let g : size * suc (length xs) ≡ size + size * length xs = omega arith in
    length-append (write x) (flat_map write xs) ∙ omega arith

-- the lengths of records
pub length-word : (n : ℕ) → length (word_bytes n) ≡ 4
unfolding word_bytes
length-word n = refl

pub length-segment : (s : Segment) → length (segment_bytes s) ≡ 32
unfolding segment_bytes word_bytes
length-segment s = refl

pub length-section : (s : Section) → length (section_bytes s) ≡ 40
unfolding section_bytes word_bytes
length-section s = refl

pub length-reloc : (r : Reloc) → length (reloc_bytes r) ≡ 12
unfolding reloc_bytes word_bytes
length-reloc r = refl

pub words_read : (ws : List ℕ) (at : ℕ) (pre post : List ℕ) → length pre ≡ at
    → entries (word_at (pre ++ (flat_map word_bytes ws ++ post))) 4 at (length ws) ≡ ws
words_read ws at pre post l = records_read word_at word_bytes 4 (λ n. Unit {0}) word_first
    (λ n post u. word_read n post) length-word ws at pre post l (λ k d m. tt)

pub relocs_read : (rs : List Reloc) (at : ℕ) (pre post : List ℕ) → length pre ≡ at → All (λ r. r.kind < 256) rs
    → entries (reloc_at (pre ++ (flat_map reloc_bytes rs ++ post))) 12 at (length rs) ≡ rs
relocs_read rs at pre post l w = records_read reloc_at reloc_bytes 12 (λ r. r.kind < 256) reloc_behind reloc_read
    length-reloc rs at pre post l w

pub sections_read : (ss : List Section) (at : ℕ) (pre post : List ℕ) → length pre ≡ at
    → entries (section_at (pre ++ (flat_map section_bytes ss ++ post))) 40 at (length ss) ≡ ss
sections_read ss at pre post l = records_read section_at section_bytes 40 (λ s. Unit {0}) section_behind
    (λ s post u. section_read s post) length-section ss at pre post l (λ k d m. tt)

pub segment_back : (s : Segment) (pre post : List ℕ) → segment_at (pre ++ (segment_bytes s ++ post)) (length pre) ≡ s
segment_back s pre post = segment_behind pre (segment_bytes s ++ post) ∙ segment_read s post
