-- What the checks keep of an accepted file, for those who use it.
use Rattle.std.specs.Prelude.{◌≡◌, ◌≢◌, ◌⊎◌, ℕ, ◌+◌, ◌%◌, ◌≤◌, true, false, List, length, All, Any, Some, IsSome}
use Rattle.elf_spec.specs.declared.HeapName.{HeapName}
use Rattle.elf_spec.specs.declared.Section.{Section}
use Rattle.elf_spec.specs.declared.Segment.{Segment}
use Rattle.elf_spec.specs.Code.{code_place, code_word, is_executable}
use Rattle.elf_spec.specs.Fields.{is_set}
use Rattle.elf_spec.specs.Heap.{heap_entry}
use Rattle.elf_spec.specs.Memory.{image_end, is_loaded}
use Rattle.elf_spec.specs.Records.{e_entry, e_phnum, sections_of, segments_of}
use Rattle.elf_read.specs.Checks.{is_shared}
use Rattle.elf_read.specs.Elf.{IsReadable}
use Rattle.elf_read.specs.Readable.{ReadableFacts}
use Rattle.elf_read.specs.Refusals.{memory_size}
use Rattle.site_spec.specs.declared.Site.{Site}
use Rattle.site_spec.specs.Sites.{site_at}
use Rattle.exec_image.specs.Checks.{descriptions, has_mark, uses_tp_at}

-- a word of the file is the code word at an address: a segment of code puts it there, and it has no
-- byte that describes the file
pub record IsCodeAt (file : List ℕ) (a place : ℕ) : Type 0 where
  pub aligned : a % 4 ≡ 0
  pub inside : place + 4 ≤ length file
  pub loaded : Any (λ g. (is_loaded g ≡ true) × (is_set 1 g.flags ≡ true) × (g.vaddr ≤ a)
      × (a + 4 ≤ g.vaddr + g.file_size) × (place + g.vaddr ≡ g.offset + a)) (segments_of file)
  pub plain : All (λ d. is_shared place 4 d.0 d.1 ≡ false) (descriptions file)

-- an executable section has no byte that describes the file
abbrev pub IsAlone : List ℕ → Section → Type 0
IsAlone file s = is_executable s ≡ true → All (λ d. is_shared s.offset s.size d.0 d.1 ≡ false) (descriptions file)

-- an executable section is made of whole words
abbrev pub IsWords : Section → Type 0
IsWords s = is_executable s ≡ true → (s.addr % 4 ≡ 0) × (s.size % 4 ≡ 0)

-- a heap function has its two words in the code
abbrev pub HasTwoWords : List ℕ → HeapName → Type 0
HasTwoWords file name =
    (a : ℕ) → heap_entry file name ≡ Some a → IsSome (code_word file a) × IsSome (code_word file (a + 4))

-- two heap functions share no byte of their two words
abbrev pub AreHeapApart : List ℕ → Type 0
AreHeapApart file =
    (n m : HeapName) (a b : ℕ) → n ≢ m → heap_entry file n ≡ Some a → heap_entry file m ≡ Some b
    → is_shared a 8 b 8 ≡ false

-- a site at an address stands on a code word, calls one and comes back behind its own one or two
pub record IsSiteOfCode (file : List ℕ) (a : ℕ) (s : Site) : Type 0 where
  pub addr : s.addr ≡ a
  pub code : IsSome (code_word file a)
  pub target : IsSome (code_word file s.target)
  pub back : (s.back ≡ a + 4) ⊎ (s.back ≡ a + 8)

-- a loaded segment ends at or below an address
abbrev pub EndsBelow : ℕ → Segment → Type 0
EndsBelow end s = is_loaded s ≡ true → s.vaddr + s.mem_size ≤ end

pub record AcceptedFacts (file : List ℕ) : Type 0 where
  pub readable : IsReadable file
  pub facts : ReadableFacts file
  pub words : All IsWords (sections_of file)
  pub code : (a place : ℕ) → code_place file a ≡ Some place → IsCodeAt file a place
  pub sections : All (IsAlone file) (sections_of file)
  pub entry : IsSome (code_word file (e_entry file))
  pub heap : (name : HeapName) → HasTwoWords file name
  pub heap_apart : AreHeapApart file
  pub unmarked : All (λ g. has_mark file g ≡ false) (segments_of file)
  pub few : e_phnum file ≤ 64
  pub memory : memory_size (segments_of file) ≤ 67108864
  pub end : image_end (segments_of file) ≤ 0x70000000
  -- segments and code words end at or below the image's end
  pub segments_end : All (EndsBelow (image_end (segments_of file))) (segments_of file)
  pub code_end : (a place : ℕ) → code_place file a ≡ Some place → a + 4 ≤ image_end (segments_of file)
  pub sites : (a : ℕ) (s : Site) → site_at file a ≡ Some s → IsSiteOfCode file a s
  pub no_tp : (a : ℕ) → uses_tp_at file a ≡ false
