-- What a reader finds in the new file: the old program headers with those of the added segments
-- behind them, the old bytes that are kept, the patched words, and the bytes of the added segments.
use Rattle.std.specs.Prelude.{◌≡◌, ℕ, ◌+◌, ◌*◌, ◌<◌, ◌≤◌, ◌⊎◌, List, [], ◌∷◌, ◌++◌, drop, take, map, length, All}
use Rattle.std.specs.Prelude.{slice_index}
use Rattle.elf_spec.specs.declared.Patch.{Patch}
use Rattle.elf_spec.specs.declared.NewSegment.{NewSegment}
use Rattle.elf_spec.specs.declared.Segment.{Segment}
use Rattle.elf_spec.specs.Fields.{byte_at, half_at, word_at, word_bytes}
use Rattle.elf_spec.specs.NewFile.{table_end, up16, up4096}
use Rattle.elf_spec.specs.Records.{e_phnum, e_phoff, e_shnum, e_shoff, sections_of, segments_of}
use Rattle.elf_write.specs.Ends.{new_length}

-- the program header of an added segment whose file part begins at an offset (gABI, "Program
-- Header")
abbrev pub added_header : ℕ → NewSegment → Segment
added_header offset s = record {
  kind = 1;
  offset = offset;
  vaddr = s.vaddr;
  paddr = s.vaddr;
  file_size = length s.bytes;
  mem_size = s.mem_size;
  flags = s.flags;
  align = 4096;
}

-- those of segments that are laid out from an end on
abbrev pub added_headers : ℕ → List NewSegment → List Segment
added_headers end [] = []
added_headers end (s ∷ ss) = added_header (up4096 end) s ∷ added_headers (up4096 end + length s.bytes) ss

-- those of the segments that are added to a file
abbrev pub headers_added : List ℕ → List NewSegment → List Segment
headers_added file ss = added_headers (table_end file ss) ss

-- the bytes that a program header names in a file
abbrev pub file_part : List ℕ → Segment → List ℕ
file_part file h = take h.file_size (drop h.offset file)

-- the header's file part lies in a file of n bytes
abbrev pub IsWithin : ℕ → Segment → Type 0
IsWithin n h = h.offset + h.file_size ≤ n

-- the byte at an offset is none of the n bytes from a place on
abbrev pub IsBeside : ℕ → ℕ → ℕ → Type 0
IsBeside place n i = (i < place) ⊎ (place + n ≤ i)

-- the byte at an offset lies in a file of n bytes, and in no patch, nor in e_phoff or e_phnum (gABI,
-- "ELF Header")
pub record IsKept (n : ℕ) (patches : List Patch) (i : ℕ) : Type 0 where
  pub inside : i < n
  pub no_phoff : IsBeside 28 4 i
  pub no_phnum : IsBeside 44 2 i
  pub no_patch : All (λ p. IsBeside p.offset 4 i) patches

-- the words of two patches share no byte
abbrev pub IsApart : Patch → Patch → Type 0
IsApart p q = (p.offset + 4 ≤ q.offset) ⊎ (q.offset + 4 ≤ p.offset)

-- no two of the patches share a byte, and each is behind the file header
abbrev pub AreDisjointPatches : List Patch → Type 0
AreDisjointPatches [] = Unit {0}
AreDisjointPatches (p ∷ ps) = (52 ≤ p.offset) × (All (IsApart p) ps × AreDisjointPatches ps)

-- a new file, made of a file with patches and added segments
pub record NewLayout (file : List ℕ) (patches : List Patch) (segments : List NewSegment) (new : List ℕ) : Type 0 where
  pub length_is : length new ≡ new_length file segments
  pub phoff : e_phoff new ≡ up16 (length file)
  pub phnum : e_phnum new ≡ e_phnum file + length segments
  -- the program headers: the old ones, then one for each added segment
  pub headers : segments_of new ≡ segments_of file ++ headers_added file segments
  -- each added header names the bytes of its segment, which lie in the new file, as the old file
  -- does
  pub added : map (file_part new) (headers_added file segments) ≡ map (λ s. s.bytes) segments
  pub within : All (IsWithin (length new)) (headers_added file segments)
  pub longer : length file ≤ length new
  -- the old bytes that are kept, one by one, in a part of the file, and as numbers
  pub kept : (i : ℕ) → IsKept (length file) patches i → byte_at new i ≡ byte_at file i
  pub kept_parts : (i n : ℕ) → ((k : ℕ) → k < n → IsKept (length file) patches (i + k))
      → take n (drop i new) ≡ take n (drop i file)
  pub kept_words : (i : ℕ) → ((k : ℕ) → k < 4 → IsKept (length file) patches (i + k)) → word_at new i ≡ word_at file i
  pub kept_halves : (i : ℕ) → IsKept (length file) patches i → IsKept (length file) patches (i + 1)
      → half_at new i ≡ half_at file i
  -- the section headers, where their table is kept and no patch is in the file header
  pub sections : All (λ p. 52 ≤ p.offset) patches → ((k : ℕ) → k < 40 * e_shnum file
      → IsKept (length file) patches (e_shoff file + k)) → sections_of new ≡ sections_of file
  -- each patched word, byte for byte and as a number
  pub patched_bytes : AreDisjointPatches patches → All (λ p. (k : ℕ) → k < 4
      → byte_at new (p.offset + k) ≡ slice_index (word_bytes p.word) k) patches
  pub patched_words : AreDisjointPatches patches → All (λ p. word_at new p.offset ≡ p.word) patches
