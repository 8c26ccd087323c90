-- What the simulation rests on: facts about a source, a plan that fits it and the memory of its new
-- file, which speak of no state of a machine.
use Rattle.std.specs.Prelude.{◌≡◌, ℕ, ◌+◌, ◌*◌, ◌/◌, ◌%◌, ◌^◌, ◌<◌, ◌≤◌, ◌⊎◌, List, true, false, Some, None, length}
use Rattle.std.specs.Prelude.{slice_get, is_some}
use Rattle.rv_isa.specs.declared.Instr.{Instr}
use Rattle.rv_isa.specs.declared.Instr.TheVariants.{Auipc, Jal, Jalr}
use Rattle.rv_isa.specs.Table.{decoded}
use Rattle.rv_isa.specs.Names.{names_register}
use Rattle.elf_spec.specs.declared.HeapName.{HeapName}
use Rattle.elf_spec.specs.Records.{e_entry}
use Rattle.elf_spec.specs.Code.{code_word}
use Rattle.elf_spec.specs.Heap.{heap_entry}
use Rattle.plan_core.specs.declared.types.Plan.{Plan}
use Rattle.plan_core.specs.declared.types.PlanLine.{PlanLine}
use Rattle.site_spec.specs.declared.Site.{Site}
use Rattle.rv_isa.specs.Addresses.{plus}
use Rattle.site_spec.specs.Places.{text_at, stub_at, text_room}
use Rattle.site_spec.specs.Sites.{site_at}
use Rattle.site_spec.specs.Plans.{Fits}
use Rattle.new_file_spec.specs.Rewritten.{jump_words}
use Rattle.new_file_spec.specs.Stubs.{stub_words}
use Rattle.machine_spec.specs.Memory.{range_at, byte_of, memory_of}
use Rattle.flat_spec.specs.Stores.{allows_store, fetched}
use Rattle.sym_spec.specs.Plain.{is_plain, is_plain_store, is_code_byte}
use Rattle.sym_spec.specs.SymMachine.{line_at}
use Rattle.sym_spec.specs.SymTurns.{is_second}
use Rattle.sym_spec.specs.HeapActions.{function_at}
use Rattle.simulation.specs.Laws.{Laws}
use Rattle.simulation.specs.HeapGround.{HeapGround}

-- a site is a JAL that links ra: what it calls, and where it comes back to
pub record IsJalSite (file : List ℕ) (a : ℕ) (s : Site) : Type 0 where
  pub word : ℕ
  pub imm : ℕ
  pub there : code_word file a ≡ Some word
  pub reads : decoded word ≡ Some (Jal 1 imm)
  pub addr : s.addr ≡ a
  pub target : s.target ≡ plus a imm
  pub back : s.back ≡ a + 4
  pub pair : s.pair ≡ false

-- a site is an AUIPC that gives ra and behind it a JALR through ra that links it
pub record IsPairSite (file : List ℕ) (a : ℕ) (s : Site) : Type 0 where
  pub first : ℕ
  pub second : ℕ
  pub upper : ℕ
  pub lower : ℕ
  pub there : code_word file a ≡ Some first
  pub reads : decoded first ≡ Some (Auipc 1 upper)
  pub next : code_word file (a + 4) ≡ Some second
  pub reads_next : decoded second ≡ Some (Jalr 1 1 lower)
  pub addr : s.addr ≡ a
  pub target : s.target ≡ plus a (upper + lower) / 2 * 2
  pub code : is_some (code_word file s.target) ≡ true
  pub back : s.back ≡ a + 8
  pub pair : s.pair ≡ true

-- no site line names an address, it is no second word, and no heap function begins there
pub record IsUnchosen (file : List ℕ) (plan : Plan) (a : ℕ) : Type 0 where
  pub none : line_at plan.sites a ≡ None
  pub alone : is_second file a ≡ false
  pub no_function : function_at file a ≡ None

-- what is said of memory, whatever the plan
pub record MemoryGround (file new : List ℕ) : Type 0 where
  -- plain bytes are neither code nor new text, above which there is only the stack
  pub plain_data : (a : ℕ) → is_plain file a ≡ true → is_code_byte file a ≡ false
  pub plain_apart : (a : ℕ) → is_plain file a ≡ true → (a < text_at file) ⊎ (0x7FF00000 ≤ a)
  pub code_below : (a : ℕ) → is_code_byte file a ≡ true → a < text_at file
  pub low_text : text_at file + text_room ≤ 0x7FF00000
  -- the new file's memory has bytes, and the source's plain ones, to be stored to as there
  pub bytes : (a b : ℕ) → byte_of (memory_of new) a ≡ Some b → b < 256
  pub plain : (a : ℕ) → is_plain file a ≡ true → byte_of (memory_of new) a ≡ byte_of (memory_of file) a
  pub plain_there : (a : ℕ) → is_plain file a ≡ true → is_some (byte_of (memory_of new) a) ≡ true
  pub storable : (a : ℕ) → is_plain_store file a ≡ true → allows_store (range_at (memory_of new) a) ≡ true

pub record Ground (file : List ℕ) (plan : Plan) (new : List ℕ) : Type 0 where
  pub laws : Laws
  pub memory : MemoryGround file new
  pub heap : (name : HeapName) (e : ℕ) → heap_entry file name ≡ Some e → HeapGround file plan new
  pub entry : e_entry new ≡ e_entry file
  -- the plan fits, and every site is a JAL or a pair
  pub fits : Fits file plan
  pub few : length plan.sites ≤ 32
  pub sites : (a : ℕ) (s : Site) → site_at file a ≡ Some s → IsJalSite file a s ⊎ IsPairSite file a s
  -- code words are words, aligned, of code bytes below the new text, and name no x4
  pub words : (a w : ℕ) → code_word file a ≡ Some w → w < 2 ^ 32
  pub aligned : (a w : ℕ) → code_word file a ≡ Some w → a % 4 ≡ 0
  pub low_code : (a w : ℕ) → code_word file a ≡ Some w → a + 4 ≤ text_at file
  pub code_bytes : (a w k : ℕ) → code_word file a ≡ Some w → a ≤ k → k < a + 4 → is_code_byte file k ≡ true
  pub names : (a w : ℕ) (i : Instr) → code_word file a ≡ Some w → decoded w ≡ Some i → names_register i 4 ≡ false
  pub aligned_text : text_at file % 4 ≡ 0
  -- a code word that no site line names, that is no second word and at which no heap function begins is as in
  -- the source
  pub code : (a w : ℕ) → code_word file a ≡ Some w → IsUnchosen file plan a → fetched (memory_of new) a ≡ Some w
  -- and so are the words of a pair that no site line names
  pub pair_code : (a : ℕ) (s : Site) → site_at file a ≡ Some s → (pair : IsPairSite file a s)
      → line_at plan.sites a ≡ None
      → (fetched (memory_of new) a ≡ Some pair.first) × (fetched (memory_of new) (a + 4) ≡ Some pair.second)
  -- the chosen site of line k has its jump to stub k, and the stub's words are there
  pub jump : (k i w : ℕ) (line : PlanLine) (s : Site) → slice_get plan.sites k ≡ Some line
      → site_at file line.addr ≡ Some s → slice_get (jump_words (stub_at (text_at file) k) s) i ≡ Some w
      → fetched (memory_of new) (line.addr + 4 * i) ≡ Some w
  pub stub : (k i w : ℕ) (line : PlanLine) (s : Site) → slice_get plan.sites k ≡ Some line
      → site_at file line.addr ≡ Some s
      → slice_get (stub_words (stub_at (text_at file) k) line.bit s.target s.back) i ≡ Some w
      → fetched (memory_of new) (stub_at (text_at file) k + 4 * i) ≡ Some w
