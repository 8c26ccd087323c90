-- The file that a plan makes of an executable: each chosen site goes to its stub, and the stubs stand
-- in a new text segment behind the mark. With heap functions, the entry of each goes to the heap's words,
-- which stand in the same segment, and a segment of data has the heap's tables and its area.
use Rattle.std.specs.Prelude.{◌≡◌, ℕ, ◌+◌, ◌-◌, ◌≤◌, List, [], ◌∷◌, ◌++◌, Bool, true, false, nat_lt, Option, Some, None}
use Rattle.std.specs.Prelude.{codes, flat_map, replicate, length, if◌then◌else◌}
use Rattle.rv_isa.specs.declared.Instr.TheVariants.{Auipc, Jal, Jalr}
use Rattle.rv_isa.specs.Encoded.{encoded}
use Rattle.rv_isa.specs.Split.{split_of}
use Rattle.elf_spec.specs.declared.HeapName.{HeapName}
use Rattle.elf_spec.specs.declared.Patch.{Patch}
use Rattle.elf_spec.specs.declared.NewSegment.{NewSegment}
use Rattle.elf_spec.specs.Fields.{word_bytes}
use Rattle.elf_spec.specs.Code.{code_place}
use Rattle.elf_spec.specs.Heap.{heap_names, heap_entry, heap_entries}
use Rattle.elf_spec.specs.NewFile.{new_file}
use Rattle.plan_core.specs.declared.types.Area.{Area}
use Rattle.plan_core.specs.declared.types.Plan.{Plan}
use Rattle.plan_core.specs.declared.types.PlanLine.{PlanLine}
use Rattle.site_spec.specs.declared.Site.{Site}
use Rattle.rv_isa.specs.Addresses.{minus}
use Rattle.site_spec.specs.Places.{text_at, data_at, stub_at}
use Rattle.site_spec.specs.Sites.{site_at}
use Rattle.heap_spec.specs.Places.{area_end}
use Rattle.heap_spec.specs.Tables.{first_tables}
use Rattle.heap_spec.specs.Service.{Entries, words_at}
use Rattle.heap_spec.specs.Functions.{entry_of, IsWord}
use Rattle.new_file_spec.specs.Stubs.{stub_words}

-- the words that stand at a chosen site in place of its own: a jump to its stub
abbrev pub jump_words : (to : ℕ) → Site → List ℕ
jump_words to s =
    if s.pair
    then encoded (Auipc 1 (split_of (minus to s.addr)).0) ∷ encoded (Jalr 0 1 (split_of (minus to s.addr)).1) ∷ []
    else encoded (Jal 0 (minus to s.addr)) ∷ []

-- the patch of a code word; none where the address is no code word
abbrev pub patch_to : (word : ℕ) → Option ℕ → List Patch
patch_to word (Some offset) = record { offset = offset; word = word } ∷ []
patch_to word None = []

-- the patches of words that are to stand at successive addresses of the code
abbrev pub patches_at : List ℕ → ℕ → List ℕ → List Patch
patches_at file a [] = []
patches_at file a (w ∷ ws) = patch_to w (code_place file a) ++ patches_at file (a + 4) ws

abbrev pub site_patches : List ℕ → (to : ℕ) → Option Site → List Patch
site_patches file to None = []
site_patches file to (Some s) = patches_at file s.addr (jump_words to s)

abbrev pub site_stub : (at bit : ℕ) → Option Site → List ℕ
site_stub at bit None = []
site_stub at bit (Some s) = flat_map word_bytes (stub_words at bit s.target s.back)

-- the patches and the stubs of site lines, of which the first has stub k
abbrev pub patches_from : List ℕ → ℕ → List PlanLine → List Patch
patches_from file k [] = []
patches_from file k (line ∷ lines) =
    site_patches file (stub_at (text_at file) k) (site_at file line.addr) ++ patches_from file (k + 1) lines

abbrev pub stubs_from : List ℕ → ℕ → List PlanLine → List ℕ
stubs_from file k [] = []
stubs_from file k (line ∷ lines) =
    site_stub (stub_at (text_at file) k) line.bit (site_at file line.addr) ++ stubs_from file (k + 1) lines

-- the sixteen bytes with which a new text begins
abbrev pub mark : List ℕ
mark = codes "HALO-LAYOUT-RV1" ++ 10 ∷ []

-- a segment of code (flags R and X) whose file part is all of it
abbrev pub text_segment : ℕ → List ℕ → NewSegment
text_segment at bytes = record { vaddr = at; flags = 5; mem_size = length bytes; bytes = bytes }

-- what the new file of an executable without heap functions is made of: the patches of the chosen
-- sites, and the new text with its segment
abbrev pub patches_for : List ℕ → Plan → List Patch
patches_for file plan = patches_from file 0 plan.sites

abbrev pub text_for : List ℕ → Plan → List ℕ
text_for file plan = mark ++ stubs_from file 0 plan.sites

abbrev pub segments_for : List ℕ → Plan → List NewSegment
segments_for file plan = text_segment (text_at file) (text_for file plan) ∷ []

-- with heap functions: the words at the entry of one, which go to a heap word, through t0 (x5)
abbrev pub heap_jump : (to at : ℕ) → List ℕ
heap_jump to at = encoded (Auipc 5 (split_of (minus to at)).0) ∷ encoded (Jalr 0 5 (split_of (minus to at)).1) ∷ []

abbrev pub heap_patch : List ℕ → (to : ℕ) → Option ℕ → List Patch
heap_patch file to (Some e) = patches_at file e (heap_jump to e)
heap_patch file to None = []

-- the patches of all entries that the executable has
abbrev pub heap_patches : List ℕ → Entries → List Patch
heap_patches file at = flat_map (λ name. heap_patch file (entry_of at name) (heap_entry file name)) heap_names

-- the new text with zeros up to the heap's words, and then these
abbrev pub heap_text : List ℕ → Plan → List ℕ → List ℕ
heap_text file plan words =
    text_for file plan ++ (replicate (words_at 0 - length (text_for file plan)) 0 ++ flat_map word_bytes words)

-- a segment of data (flags R and W) with the first contents of the tables, which has memory up to the end
-- of the area
abbrev pub data_segment : Area → ℕ → NewSegment
data_segment area at =
    record { vaddr = at; flags = 6; mem_size = area_end area at - at; bytes = first_tables area }

abbrev pub heap_segments : List ℕ → Plan → List ℕ → List NewSegment
heap_segments file plan words =
    text_segment (text_at file) (heap_text file plan words) ∷ data_segment plan.area (data_at file) ∷ []

abbrev pub has_heap : List ℕ → Bool
has_heap file = nat_lt 0 (length (heap_entries file))

-- the new file, with these words of the heap and their entries if the executable has heap functions
abbrev pub rewritten_by : Bool → List ℕ → Plan → List ℕ → Entries → List ℕ
rewritten_by true file plan words at =
    new_file file (patches_for file plan ++ heap_patches file at) (heap_segments file plan words)
rewritten_by false file plan words at = new_file file (patches_for file plan) (segments_for file plan)

unfoldable pub rewritten : List ℕ → Plan → List ℕ → Entries → List ℕ
rewritten file plan words at = rewritten_by (has_heap file) file plan words at

-- a file is the new file of an executable and a plan: the heap's words are those that stand in it, at most
-- 4096, and the entries that the patches reach are among them. Without heap functions there are none.
pub record NewFile (file : List ℕ) (plan : Plan) (new : List ℕ) : Type 0 where
  pub words : List ℕ
  pub at : Entries
  pub few : length words ≤ 4096
  pub reached : (name : HeapName) (e : ℕ) → heap_entry file name ≡ Some e
      → IsWord (text_at file) words (entry_of at name)
  pub without : has_heap file ≡ false → words ≡ []
  pub bytes : new ≡ rewritten file plan words at
