-- The new text and the tables of a fitting plan among the ranges of its new file, without and with heap functions.
use Rattle.std.proofs.Common.{◌≡◌, inr, ℕ, ◌+◌, ◌-◌, ◌*◌, ◌/◌, ◌<◌, ◌≤◌, ◌==◌, Bool, true, false, cond, List, [], ◌∷◌}
use Rattle.std.proofs.Common.{◌++◌, length, refl, sym, ap, ◌∙◌, arith, append_assoc, length-append}
use Rattle.std.specs.Prelude.{Some, flat_map, replicate, slice_get, slice_index}
use Rattle.std.proofs.lemmas.Bool.Decides.{nat_tests}
use Rattle.std.proofs.lemmas.List.{get_or_append_left, get_or-append_right, length-replicate}
use Rattle.elf_spec.specs.Fields.{word_bytes}
use Rattle.plan_core.specs.declared.types.Area.{Area}
use Rattle.plan_core.specs.declared.types.Plan.{Plan}
use Rattle.plan_core.specs.Plan.{granules}
use Rattle.site_spec.specs.Places.{data_at, text_at}
use Rattle.site_spec.specs.Plans.{Fits}
use Rattle.machine_spec.specs.Memory.{range_at}
use Rattle.machine_spec.specs.Widths.{low_bytes}
use Rattle.heap_spec.specs.Places.{area_end}
use Rattle.heap_spec.specs.Service.{words_at}
use Rattle.heap_spec.specs.Tables.{first_tables, first_words}
use Rattle.new_file_spec.specs.Rewritten.{data_segment, heap_segments, heap_text, segments_for, text_for, text_segment}
use Rattle.elf_write.specs.NewMemory.{range_added, ranges_behind}
use Rattle.new_file_laws.proofs.Plains.{IsTextPlace}
use Rattle.new_file_laws.proofs.Behind.{HasText, behind_in, behind_past, stack_there}
use Rattle.new_file_laws.proofs.Lines as lines
use Rattle.new_file_laws.proofs.Lines.{few_sites, length_text, length-words}
use Rattle.new_file_laws.proofs.Suiting.{end_below}

-- the room of the mark and the stubs
pub short_text : (file : List ℕ) (plan : Plan) → Fits file plan → length (text_for file plan) ≤ 1424
short_text file plan fits = omega (arith, length_text file plan fits, few_sites file plan fits)

pub has_text : (file : List ℕ) (plan : Plan) → IsTextPlace file → Fits file plan
    → HasText file (text_for file plan) (segments_for file plan)
has_text file plan place fits =
    let short : length (text_for file plan) ≤ 1424 = short_text file plan fits in
    record {
      there = λ a low high. behind_in (text_segment (text_at file) (text_for file plan)) [] a (omega arith) low high;
      stack = λ a on. behind_past (text_segment (text_at file) (text_for file plan)) [] a (omega arith)
          (inr (omega (arith, short, place.low, on.0))) ∙ stack_there a on;
    }

-- the zeros between the stubs and the heap's words
abbrev gap : List ℕ → Plan → List ℕ
gap file plan = replicate (words_at 0 - length (text_for file plan)) 0

length-front_part : (file : List ℕ) (plan : Plan) → Fits file plan → length (text_for file plan ++ gap file plan) ≡ 1536
length-front_part file plan fits =
    let short : length (text_for file plan) ≤ 1424 = short_text file plan fits in
    let zeros : length (gap file plan) ≡ words_at 0 - length (text_for file plan) =
    length-replicate {A = ℕ} (words_at 0 - length (text_for file plan)) 0 in
    omega (arith, short, zeros, length-append (text_for file plan) (gap file plan))

two_parts : (file : List ℕ) (plan : Plan) (words : List ℕ)
    → heap_text file plan words ≡ (text_for file plan ++ gap file plan) ++ flat_map word_bytes words
two_parts file plan words = sym (append_assoc (text_for file plan) (gap file plan) (flat_map word_bytes words))

pub length-heap_text : (file : List ℕ) (plan : Plan) (words : List ℕ) → Fits file plan
    → length (heap_text file plan words) ≡ 1536 + 4 * length words
length-heap_text file plan words fits =
    ap length (two_parts file plan words)
    ∙ omega (
      arith,
      length-append (text_for file plan ++ gap file plan) (flat_map word_bytes words),
      length-front_part file plan fits,
      length-words words,
    )

-- its first bytes are the mark and the stubs
pub first_bytes : (file : List ℕ) (plan : Plan) (words : List ℕ) (i : ℕ) → i < length (text_for file plan)
    → slice_index (heap_text file plan words) i ≡ slice_index (text_for file plan) i
first_bytes file plan words i low =
    get_or_append_left (text_for file plan) (gap file plan ++ flat_map word_bytes words) 0 i low

-- byte j of word k of the heap
pub heap_byte : (file : List ℕ) (plan : Plan) (words : List ℕ) (k j w : ℕ) → Fits file plan
    → slice_get words k ≡ Some w → j < 4
    → slice_index (heap_text file plan words) (1536 + 4 * k + j) ≡ slice_index (word_bytes w) j
heap_byte file plan words k j w fits there small =
    let past : 1536 ≤ 1536 + 4 * k + j = omega arith in
    let place : 1536 + 4 * k + j - 1536 ≡ 4 * k + j = omega arith in
    ap (λ bs. slice_index bs (1536 + 4 * k + j)) (two_parts file plan words)
    ∙ (get_or-append_right (text_for file plan ++ gap file plan) (flat_map word_bytes words) 1536 (1536 + 4 * k + j) 0
    (length-front_part file plan fits) past
    ∙ (ap (slice_index (flat_map word_bytes words)) place ∙ lines.words_at words k j w there small))

-- the first contents of the tables, in bytes
pub length-low : (ws : List ℕ) → length (flat_map (low_bytes 4) ws) ≡ 4 * length ws
length-low [] = refl
length-low (w ∷ ws) = omega (arith, length-append (low_bytes 4 w) (flat_map (low_bytes 4) ws), length-low ws)

-- the size of the first words, as a law says it
abbrev pub Sizes : Type 0
Sizes = (area : Area) → 4 * length (first_words area) ≡ 128 + 16 * area.chunks + cond (area.fallback == 0) 0 8

pub record AreTables (area : Area) (at : ℕ) : Type 0 where
  pub fit : length (first_tables area) ≤ area_end area at - at
  pub small : length (first_tables area) ≤ 65536
  pub memory : area_end area at - at ≤ 25300000
  pub up : at ≤ area_end area at

pub tables_fit : Sizes → (area : Area) (at : ℕ) → area.chunks ≤ 256 → granules area ≤ 1048576 → AreTables area at
tables_fit sizes area at chunks few =
    let end : area_end area at ≤ at + 25300000 = end_below area at chunks few in
    let (least, most) = last area.fallback (area.fallback == 0) refl in
    let size : length (first_tables area) ≡ 128 + 16 * area.chunks + cond (area.fallback == 0) 0 8 =
    length-low (first_words area) ∙ sizes area in
    let some : area.fallback ≤ granules area = omega arith in
    record {
      fit = within (length (first_tables area)) area.chunks (granules area) (cond (area.fallback == 0) 0 8) size
          (omega (arith, least, some));
      small = omega (arith, size, most, chunks);
      memory = omega (arith, end);
      up = omega arith;
    }
  where
    last : (f : ℕ) (b : Bool) → (f == 0) ≡ b → (cond b 0 8 ≤ 8 * f) × (cond b 0 8 ≤ 8)
    last f true e = (omega arith, omega arith)
    last f false e = let some : 1 ≤ f = grind (arith, nat_tests) in (omega (arith, some), omega arith)

    within : (n c g x : ℕ) → n ≡ 128 + 16 * c + x → x ≤ 8 * g
        → n ≤ at + (128 + 16 * c + 8 * g + 15) / 16 * 16 + 16 * g - at
    within n c g x e l = omega arith

-- the text with the heap's words, and the tables and the area behind it
pub record HasHeap (file : List ℕ) (plan : Plan) (words : List ℕ) : Type 0 where
  pub text : HasText file (heap_text file plan words) (heap_segments file plan words)
  pub tables : (a : ℕ) → data_at file ≤ a → a < area_end plan.area (data_at file)
      → range_at (ranges_behind (heap_segments file plan words)) a
      ≡ Some (range_added (data_segment plan.area (data_at file)))

pub has_heap : (file : List ℕ) (plan : Plan) (words : List ℕ) → IsTextPlace file → Fits file plan → length words ≤ 4096
    → AreTables plan.area (data_at file) → HasHeap file plan words
has_heap file plan words place fits few tables =
    let long : length (heap_text file plan words) ≡ 1536 + 4 * length words = length-heap_text file plan words fits in
    record {
      text = record {
        there = λ a low high. behind_in (text_segment (text_at file) (heap_text file plan words))
            (data_segment plan.area (data_at file) ∷ []) a (omega arith) low high;
        stack = λ a on. past a (omega (arith, long, few, place.low, on.0))
            ∙ (behind_past (data_segment plan.area (data_at file)) [] a tables.fit
            (inr (omega (arith, tables.memory, place.low, on.0))) ∙ stack_there a on);
      };
      tables = λ a low high. past a (omega (arith, long, few, low))
          ∙ behind_in (data_segment plan.area (data_at file)) [] a tables.fit low (omega (arith, high, tables.up));
    }
  where
    past : (a : ℕ) → text_at file + length (heap_text file plan words) ≤ a
        → range_at (ranges_behind (heap_segments file plan words)) a
        ≡ range_at (ranges_behind (data_segment plan.area (data_at file) ∷ [])) a
    past a high = behind_past (text_segment (text_at file) (heap_text file plan words))
        (data_segment plan.area (data_at file) ∷ []) a (omega arith) (inr high)
