-- Laws of the cells of plain memory at the start.
use Rattle.std.proofs.Common.{◌≡◌, ℕ, zero, suc, ◌+◌, ◌-◌, ◌*◌, ◌/◌, ◌≤◌, List, [], ◌∷◌, ◌++◌, refl, ap, ap₂, sym, ◌∙◌}
use Rattle.std.proofs.Common.{arith}
use Rattle.std.proofs.lemmas.List.{map-append}
use Rattle.std.specs.Prelude.{Bool, map, filter, All, if◌then◌else◌}
use Rattle.elf_spec.specs.declared.Segment.{Segment}
use Rattle.elf_spec.specs.Memory.{is_loaded}
use Rattle.elf_spec.specs.Records.{segments_of}
use Rattle.machine_spec.specs.Memory.{Range, stack_start, stack_size, memory_of, byte_of}
use Rattle.elf_read.specs.Readable.{IsLoadedInside, ReadableFacts}
use Rattle.sym_cells.specs.declared.Mark.{Mark}
use Rattle.sym_cells.specs.declared.Mark.TheVariants.{Blank}
use Rattle.sym_cells.specs.Cells.{Cell, Bytes}
use Rattle.sym_cells.specs.Memory.{Span, Block, Memory}
use Rattle.sym_spec.specs.Plain.{is_plain}
use Rattle.sym_spec.specs.StartMemory.{mark_of, start_mark, start_cell, cells_from, segment_span, span_over}
use Rattle.sym_spec.specs.StartMemory.{start_memory}
use Rattle.sym_memory.specs.declared.parts.PlainPart.{PlainPart}
use Rattle.sym_memory.specs.declared.spans.PlainSpan.{PlainSpan}
use Rattle.sym_memory.specs.Parts.{is_plain_in, span_of, spans_of}
use Rattle.sym_memory.specs.Kept.{HeldBlocks}
use Rattle.sym_memory.specs.Held.{HeldPlain}
use Rattle.sym_memory.specs.Starting.{cell_in_memory, EndsLow}

-- one more cell
cells_more : (cell : ℕ → Cell) (k n : ℕ) → cells_from cell k n ++ cell (k + n) ∷ [] ≡ cells_from cell k (suc n)
cells_more cell k zero = let here : k + 0 ≡ k = omega arith in ap (λ j. cell j ∷ []) here
cells_more cell k (suc n) =
    let there : k + suc n ≡ k + 1 + n = omega arith in
    ap (λ xs. cell k ∷ xs) (ap (λ j. cells_from cell (k + 1) n ++ cell j ∷ []) there ∙ cells_more cell (k + 1) n)

pub cells_step : (cell : ℕ → Cell) (first k : ℕ) (old new : List Cell) → first ≤ k → new ≡ old ++ cell k ∷ []
    → old ≡ cells_from cell first (k - first) → new ≡ cells_from cell first (k + 1 - first)
cells_step cell first k old new low e f =
    let place : k ≡ first + (k - first) = omega (arith, low) in
    let count : suc (k - first) ≡ k + 1 - first = omega (arith, low) in
    e ∙ ap (λ xs. xs ++ cell k ∷ []) f ∙ ap (λ j. cells_from cell first (k - first) ++ cell j ∷ []) place
    ∙ cells_more cell first (k - first) ∙ ap (cells_from cell first) count

pub spans_pushed : (spans after : List PlainSpan) (s : PlainSpan) (front : List Span) (last : Span)
    → after ≡ spans ++ s ∷ [] → spans_of spans ≡ front → span_of s ≡ last → spans_of after ≡ front ++ last ∷ []
spans_pushed spans after s front last e f g =
    ap spans_of e ∙ map-append span_of spans (s ∷ []) ∙ ap₂ (λ xs x. xs ++ x ∷ []) f g

abbrev mark : (ℕ → Bool) → List Range → ℕ → Mark
mark plain m a = if plain a then mark_of (byte_of m a) else Blank

abbrev cells : (ℕ → Bool) → List Range → ℕ → Cell
cells plain m k =
    Bytes (mark plain m (4 * k)) (mark plain m (4 * k + 1)) (mark plain m (4 * k + 2)) (mark plain m (4 * k + 3))

-- the cells out of the parts and bytes are those of the file
cells_of_file : (file : List ℕ) (parts : List PlainPart) (memory : List Range) → is_plain_in parts ≡ is_plain file
    → memory ≡ memory_of file → cell_in_memory parts memory ≡ start_cell file
cells_of_file file parts memory e f = ap₂ cells e f

abbrev pub memory_with : List Span → List Block → Memory
memory_with spans blocks = record { plain = spans; blocks = blocks }

pub memory_is : (file : List ℕ) (parts now : List PlainPart) (memory : List Range) (segs : List Segment)
    (spans : List Span) (plain : HeldPlain) (blocks : HeldBlocks) (end : ℕ)
    → is_plain_in parts ≡ is_plain file → now ≡ parts → memory ≡ memory_of file → segs ≡ segments_of file
    → spans ≡ map (segment_span (cell_in_memory now memory)) (filter is_loaded segs)
    ++ span_over (cell_in_memory now memory) stack_start stack_size ∷ []
    → plain ≡ record { parts = parts; spans = spans } → blocks ≡ record { blocks = []; end = end }
    → memory_with plain.spans blocks.blocks ≡ start_memory file
unfolding start_memory
memory_is file parts now memory segs spans plain blocks end e n f s g u v =
    ap₂ (λ (x : HeldPlain) (y : HeldBlocks). memory_with x.spans y.blocks) u v
    ∙ ap (λ x. memory_with x []) (g
    ∙ ap₂ (λ c xs. map (segment_span c) (filter is_loaded xs) ++ span_over c stack_start stack_size ∷ [])
    (ap (λ ps. cell_in_memory ps memory) n ∙ cells_of_file file parts memory e f) s)
