-- What a file that is made of the parts of a plan is.
use Rattle.std.proofs.Common.{◌≡◌, ℕ, suc, ◌+◌, ◌<◌, ◌≤◌, true, false, List, [], ◌∷◌, ◌++◌, length, None, inl, arith}
use Rattle.std.proofs.Common.{Some, refl, ap, sym, ◌∙◌, subst}
use Rattle.std.specs.Prelude.{nat_lt}
use Rattle.std.specs.List.{All}
use Rattle.std.proofs.lemmas.Bool.Decides.{nat_tests}
use Rattle.std.proofs.lemmas.List.Elements.{All-cons, All-nil}
use Rattle.elf_spec.specs.declared.HeapName.{HeapName}
use Rattle.elf_spec.specs.declared.HeapName.TheVariants.{Malloc, Calloc, Realloc, Free, MallocR, CallocR, ReallocR}
use Rattle.elf_spec.specs.declared.HeapName.TheVariants.{FreeR}
use Rattle.elf_spec.specs.declared.NewSegment.{NewSegment}
use Rattle.elf_spec.specs.declared.Patch.{Patch}
use Rattle.elf_spec.specs.Heap.{heap_entries, heap_entry}
use Rattle.elf_spec.specs.NewFile.{new_file}
use Rattle.elf_spec.specs.Records.{e_entry}
use Rattle.plan_core.specs.declared.types.Plan.{Plan}
use Rattle.site_spec.specs.Places.{data_at, text_at}
use Rattle.site_spec.specs.Plans.{Fits}
use Rattle.heap_spec.specs.Functions.{IsWord, entry_of}
use Rattle.heap_spec.specs.Service.{Entries}
use Rattle.heap_code.specs.Images.{Holds}
use Rattle.new_file_spec.specs.Rewritten.{NewFile, data_segment, has_heap, heap_patches, heap_segments, heap_text}
use Rattle.new_file_spec.specs.Rewritten.{patches_for, rewritten, segments_for, text_segment}
use Rattle.elf_read.specs.Elf.{IsReadable}
use Rattle.elf_write.specs.Kept.{AreAddedAbove, AreFieldsAlone, AreTablesUnpatched, DoHeadersPass}
use Rattle.elf_write.specs.Layout.{AreDisjointPatches, IsBeside, IsKept, NewLayout}
use Rattle.exec_image.specs.Images.{IsAccepted}
use Rattle.exec_image.specs.PlanFaults.{plan_fault}
use Rattle.match_spec.specs.Keeps.{Keeps, Reaches}
use Rattle.match_spec.specs.Same.{DoesTheSame}
use Rattle.new_file_laws.specs.Behaviour.{KeepsBehaviour}
use Rattle.new_file_laws.specs.Parts.{AreParts}
use Rattle.rewriter.specs.Rewrites.{IsRewritten}

beside_header : (i : ℕ) (ps : List Patch) → i < 52 → AreDisjointPatches ps → All (λ p. IsBeside p.offset 4 i) ps
beside_header i [] l apart = All-nil (λ p. IsBeside p.offset 4 i)
beside_header i (p ∷ ps) l (behind, (others, rest)) =
    All-cons (λ p. IsBeside p.offset 4 i) p ps (inl (omega (arith, l, behind))) (beside_header i ps l rest)

-- the file header is kept up to e_phoff
header_kept : (n i : ℕ) (ps : List Patch) → 52 ≤ n → i < 28 → AreDisjointPatches ps → IsKept n ps i
header_kept n i ps long l apart = record {
  inside = omega (arith, long, l);
  no_phoff = inl l;
  no_phnum = inl (omega (arith, l));
  no_patch = beside_header i ps (omega (arith, l)) apart;
}

entry_kept : (file : List ℕ) (patches : List Patch) (segments : List NewSegment) (new : List ℕ)
    → NewLayout file patches segments new → 52 ≤ length file
    → AreDisjointPatches patches → e_entry new ≡ e_entry file
entry_kept file patches segments new layout long apart =
    layout.kept_words 24 (λ k l. header_kept (length file) (24 + k) patches long (omega (arith, l)) apart)

-- of a file whose bytes are those of the image
pub header_is : (from file : List ℕ) (patches : List Patch) (segments : List NewSegment) (new : List ℕ)
    → from ≡ file → NewLayout from patches segments new → 52 ≤ length file → AreParts file patches segments
    → e_entry new ≡ e_entry file
header_is from file patches segments new same layout long parts =
    entry_kept file patches segments new (subst (λ f. NewLayout f patches segments new) same layout) long parts.apart

pub readable_is : (from file : List ℕ) (patches : List Patch) (segments : List NewSegment) (new : List ℕ)
    → from ≡ file → (AreAddedAbove from segments → DoHeadersPass from segments)
    → (AreTablesUnpatched from patches → AreFieldsAlone from → DoHeadersPass from segments → IsReadable new)
    → AreParts file patches segments → AreFieldsAlone file → IsReadable new
readable_is from file patches segments new same headers readable parts alone =
    readable (subst (λ f. AreTablesUnpatched f patches) (sym same) parts.unpatched)
    (subst AreFieldsAlone (sym same) alone) (headers (subst (λ f. AreAddedAbove f segments) (sym same) parts.above))

-- what holds of the parts of a plan as they were made holds of them as they are defined
pub of_parts : (P : List Patch → List NewSegment → Type 0) (patches qs : List Patch) (segments ts : List NewSegment)
    → patches ≡ qs → segments ≡ ts → P patches segments → P qs ts
of_parts P patches qs segments ts e f h = subst (P qs) f (subst (λ p. P p segments) e h)

-- the patches and segments of a plan with heap functions, as they were made
pub made_patches : (file : List ℕ) (plan : Plan) (at : Entries) (made sites all : List Patch) → made ≡ all
    → all ≡ sites ++ heap_patches file at → sites ≡ patches_for file plan
    → made ≡ patches_for file plan ++ heap_patches file at
made_patches file plan at made sites all e f g = e ∙ (f ∙ ap (λ ps. ps ++ heap_patches file at) g)

pub made_segments : (file : List ℕ) (plan : Plan) (words given : List ℕ) (place : ℕ) (text tables : NewSegment)
    → place ≡ text_at file → given ≡ words → text ≡ text_segment (text_at file) (heap_text file plan given)
    → tables ≡ data_segment plan.area (place + 20480) → text ∷ tables ∷ [] ≡ heap_segments file plan words
made_segments file plan words given place text tables e f g h =
    let first : text ≡ text_segment (text_at file) (heap_text file plan words) =
    g ∙ ap (λ ws. text_segment (text_at file) (heap_text file plan ws)) f in
    let second : tables ≡ data_segment plan.area (data_at file) =
    h ∙ ap (λ a. data_segment plan.area (a + 20480)) e in
    ap (λ s. s ∷ tables ∷ []) first
    ∙ ap (λ s. text_segment (text_at file) (heap_text file plan words) ∷ s ∷ []) second

no_entries : Entries
no_entries = record {
  malloc = 0;
  calloc = 0;
  realloc = 0;
  free = 0;
  malloc_r = 0;
  calloc_r = 0;
  realloc_r = 0;
  free_r = 0;
}

-- an executable without heap functions has no entry
pub none_given : (file : List ℕ) → has_heap file ≡ false → heap_entries file ≡ []
none_given file h = empty (heap_entries file) h
  where
    empty : (xs : List ℕ) → nat_lt 0 (length xs) ≡ false → xs ≡ []
    empty [] h = refl
    empty (x ∷ xs) h =
        let some : nat_lt 0 (suc (length xs)) ≡ true = grind (arith, nat_tests) in
        let clash : true ≡ false = sym some ∙ h in absurd (cc)

pub without_heap_is : (file : List ℕ) (plan : Plan) (new : List ℕ)
    → ((name : HeapName) (e : ℕ) → heap_entries file ≡ [] → heap_entry file name ≡ Some e → ⊥) → has_heap file ≡ false
    → new ≡ new_file file (patches_for file plan) (segments_for file plan) → NewFile file plan new
unfolding rewritten
without_heap_is file plan new lacks none e = record {
  words = [];
  at = no_entries;
  few = omega arith;
  reached = λ name a there. absurd (lacks name a (none_given file none) there);
  without = λ heap. refl;
  bytes = rw none e;
}

-- the heap functions that were built reach their words
pub reached_in : (text : ℕ) (words : List ℕ) (at : Entries) → Holds text words at → (name : HeapName)
    → IsWord text words (entry_of at name)
reached_in text words at h Malloc = h.malloc
reached_in text words at h Calloc = h.calloc
reached_in text words at h Realloc = h.realloc
reached_in text words at h Free = h.free
reached_in text words at h MallocR = h.malloc_r
reached_in text words at h CallocR = h.calloc_r
reached_in text words at h ReallocR = h.realloc_r
reached_in text words at h FreeR = h.free_r

pub with_heap_is : (file : List ℕ) (plan : Plan) (new words : List ℕ) (at : Entries) → has_heap file ≡ true
    → length words ≤ 4096 → Holds (text_at file) words at
    → new ≡ new_file file (patches_for file plan ++ heap_patches file at) (heap_segments file plan words)
    → NewFile file plan new
unfolding rewritten
with_heap_is file plan new words at some few holds e = record {
  words = words;
  at = at;
  few = few;
  reached = λ name a there. reached_in (text_at file) words at holds name;
  without = λ none. absurd (let clash : true ≡ false = sym some ∙ none in cc);
  bytes = rw some e;
}

-- states that match have written the same, have the same input left and have ended alike
does_the_same : (file : List ℕ) (plan : Plan) (new : List ℕ) → Keeps file plan new → DoesTheSame file plan new
does_the_same file plan new keeps input bytes n safe =
    let r : Reaches file plan new input n = keeps input bytes n safe in
    record {
      turns = r.turns;
      least = r.least;
      most = r.most;
      output = r.state.output;
      input_left = r.state.input;
      ending = r.state.machines.ending;
    }

-- a file that passes all checks is rewritten as the new file of its image
pub rewritten_is : (file image : List ℕ) (plan : Plan) (new : List ℕ) → image ≡ file → IsAccepted file
    → plan_fault image plan ≡ None
    → Fits image plan → NewFile image plan new → KeepsBehaviour image plan new → (AreFieldsAlone image → IsReadable new)
    → length new ≤ 34603008 → IsRewritten file plan new
rewritten_is file image plan new same accepted sound fits is_new kept readable short =
    subst (λ f. IsRewritten f plan new) same (record {
      due = let passes : IsAccepted image = rw same accepted in rw (passes, sound) refl;
      fits = fits;
      is_new = is_new;
      keeps = kept.keeps;
      follows = kept.follows;
      same = does_the_same image plan new kept.keeps;
      readable = readable;
      short = short;
    })
