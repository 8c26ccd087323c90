-- The entries are among the words, and what stands after each function.
use Rattle.std.proofs.Common.{◌≡◌, ℕ, ◌+◌, ◌*◌, ◌%◌, ◌≤◌, List, [], ◌∷◌, ◌++◌, length, length-append, append_assoc, ◌∙◌}
use Rattle.std.proofs.Common.{ap, refl, arith}
use Rattle.rv_isa.specs.Encoded.{encoded}
use Rattle.rv_isa.specs.declared.Instr.TheVariants.{Jalr}
use Rattle.plan_core.specs.declared.types.Area.{Area}
use Rattle.plan_core.specs.declared.types.Row.{Row}
use Rattle.frag_code.specs.Fragments.{Fragment}
use Rattle.frag_code.specs.Code.{code_of}
use Rattle.heap_code.specs.Calls.{malloc_code, calloc_code, free_code}
use Rattle.heap_code.specs.Moving.{realloc_code}
use Rattle.heap_code.specs.Words.{entry_words, returning_words, malloc_words, calloc_words, realloc_words, free_words}
use Rattle.heap_code.specs.Words.{all_words, entries}
use Rattle.heap_spec.specs.Service.{Entries}
use Rattle.heap_code.specs.Images.{Holds}

returning_some : (f : Fragment) → 1 ≤ length (returning_words f)
returning_some f = let a = length-append (code_of f) (encoded (Jalr 0 1 0) ∷ []) in omega (arith, a)

entry_some : (f : Fragment) → 2 ≤ length (entry_words f)
entry_some f = let r = returning_some f in omega (arith, r)

-- how many words there are, by functions
pub lengths : (rows : List Row) (area : Area) (data_at : ℕ) → length (all_words rows area data_at)
    ≡ length (malloc_words rows area data_at) + length (calloc_words rows area data_at) + length
    (realloc_words rows area data_at) + length (free_words area data_at)
lengths rows area data_at =
    let a = length-append (malloc_words rows area data_at) (calloc_words rows area data_at
    ++ (realloc_words rows area data_at ++ free_words area data_at)) in
    let b = length-append (calloc_words rows area data_at) (realloc_words rows area data_at
    ++ free_words area data_at) in
    let c = length-append (realloc_words rows area data_at) (free_words area data_at) in omega (arith, a, b, c)

pub holds : (rows : List Row) (area : Area) (text_at data_at : ℕ) → text_at % 4096 ≡ 0
    → Holds text_at (all_words rows area data_at) (entries rows area data_at text_at)
holds rows area text_at data_at page =
    let l = lengths rows area data_at in
    let m = entry_some (malloc_code rows area data_at) in
    let c = entry_some (calloc_code rows area data_at) in
    let r = entry_some (realloc_code rows area data_at) in
    let f = returning_some (free_code area data_at) in
    record {
      malloc = (omega arith, omega (arith, l, m, c, r, f), omega (arith, page));
      calloc = (omega arith, omega (arith, l, m, c, r, f), omega (arith, page));
      realloc = (omega arith, omega (arith, l, m, c, r, f), omega (arith, page));
      free = (omega arith, omega (arith, l, m, c, r, f), omega (arith, page));
      malloc_r = (omega arith, omega (arith, l, m, c, r, f), omega (arith, page));
      calloc_r = (omega arith, omega (arith, l, m, c, r, f), omega (arith, page));
      realloc_r = (omega arith, omega (arith, l, m, c, r, f), omega (arith, page));
      free_r = (omega arith, omega (arith, l, m, c, r, f), omega (arith, page));
    }

-- four lists one after the other
pub joined : (w0 w1 w2 w3 w4 a b c d : List ℕ) → w0 ≡ [] → w1 ≡ w0 ++ a → w2 ≡ w1 ++ b
    → w3 ≡ w2 ++ c → w4 ≡ w3 ++ d → w4 ≡ a ++ (b ++ (c ++ d))
joined w0 w1 w2 w3 w4 a b c d e0 e1 e2 e3 e4 =
    let one : w1 ≡ a = e1 ∙ ap (λ x. x ++ a) e0 in
    let two : w2 ≡ a ++ b = e2 ∙ ap (λ x. x ++ b) one in
    let three : w3 ≡ (a ++ b) ++ c = e3 ∙ ap (λ x. x ++ c) two in
    let four : w4 ≡ ((a ++ b) ++ c) ++ d = e4 ∙ ap (λ x. x ++ d) three in
    four ∙ (append_assoc (a ++ b) c d ∙ append_assoc a b (c ++ d))

-- the entries where the words begin at an address, and so many of them stand before calloc's, realloc's
-- and free's
abbrev pub entries_from : (at calloc realloc free : ℕ) → Entries
entries_from at calloc realloc free = record {
  malloc = at + 4;
  calloc = at + 4 * calloc + 8;
  realloc = at + 4 * realloc + 8;
  free = at + 4 * free + 4;
  malloc_r = at;
  calloc_r = at + 4 * calloc;
  realloc_r = at + 4 * realloc;
  free_r = at + 4 * free;
}

pub entries_are : (rows : List Row) (area : Area) (text_at data_at c r f : ℕ)
    → c ≡ length (malloc_words rows area data_at)
    → r ≡ length (malloc_words rows area data_at) + length (calloc_words rows area data_at)
    → f ≡ length (malloc_words rows area data_at) + length (calloc_words rows area data_at)
    + length (realloc_words rows area data_at)
    → entries_from (text_at + 1536) c r f ≡ entries rows area data_at text_at
entries_are rows area text_at data_at c r f p q s =
    let e1 : 4 * c ≡ 4 * length (malloc_words rows area data_at) = omega (arith, p) in
    let e2 : text_at + 1536 + 4 * r ≡ text_at + 1536 + 4 * length (malloc_words rows area data_at)
    + 4 * length (calloc_words rows area data_at) = omega (arith, q) in
    let e3 : text_at + 1536 + 4 * f ≡ text_at + 1536 + 4 * length (malloc_words rows area data_at)
    + 4 * length (calloc_words rows area data_at) + 4 * length (realloc_words rows area data_at) = omega (arith, s) in
    rw (e1, e2, e3) refl
