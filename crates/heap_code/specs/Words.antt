-- The words of the heap functions.
use Rattle.std.specs.Prelude.{ℕ, ◌+◌, ◌*◌, List, [], ◌∷◌, ◌++◌, length, flat_map}
use Rattle.machine_spec.specs.Widths.{low_bytes}
use Rattle.rv_isa.specs.declared.Op.TheVariants.{Add}
use Rattle.rv_isa.specs.declared.Instr.TheVariants.{OpImm, Jalr}
use Rattle.rv_isa.specs.Encoded.{encoded}
use Rattle.frag_code.specs.Fragments.{Fragment}
use Rattle.plan_core.specs.declared.types.Area.{Area}
use Rattle.plan_core.specs.declared.types.Row.{Row}
use Rattle.heap_spec.specs.Service.{Entries, words_at}
use Rattle.frag_code.specs.Code.{code_of}
use Rattle.heap_code.specs.Calls.{malloc_code, calloc_code, free_code}
use Rattle.heap_code.specs.Moving.{realloc_code}

-- the function, then jalr x0, 0(ra)
abbrev pub returning_words : Fragment → List ℕ
returning_words f = code_of f ++ encoded (Jalr 0 1 0) ∷ []

-- addi t0, x4, 0 before them, for a function that looks at the bits
abbrev pub entry_words : Fragment → List ℕ
entry_words f = encoded (OpImm Add 5 4 0) ∷ returning_words f

-- a reentrant entry moves its arguments and falls into the plain one: addi a0, a1, 0, and with a second
-- argument addi a1, a2, 0
abbrev pub one_argument : List ℕ
one_argument = encoded (OpImm Add 10 11 0) ∷ []

abbrev pub two_arguments : List ℕ
two_arguments = encoded (OpImm Add 10 11 0) ∷ encoded (OpImm Add 11 12 0) ∷ []

abbrev pub free_words : Area → (data_at : ℕ) → List ℕ
free_words area data_at = one_argument ++ returning_words (free_code area data_at)

-- the words of the four functions, each behind its reentrant entry
module _ (rows : List Row) (area : Area) (data_at : ℕ) where
  abbrev pub malloc_words : List ℕ
  malloc_words = one_argument ++ entry_words (malloc_code rows area data_at)

  abbrev pub calloc_words : List ℕ
  calloc_words = two_arguments ++ entry_words (calloc_code rows area data_at)

  abbrev pub realloc_words : List ℕ
  realloc_words = two_arguments ++ entry_words (realloc_code rows area data_at)

  abbrev pub all_words : List ℕ
  all_words = malloc_words ++ (calloc_words ++ (realloc_words ++ free_words area data_at))

  -- where each function's words begin
  abbrev pub calloc_at : (text_at : ℕ) → ℕ
  calloc_at text_at = words_at text_at + 4 * length malloc_words

  abbrev pub realloc_at : (text_at : ℕ) → ℕ
  realloc_at text_at = calloc_at text_at + 4 * length calloc_words

  abbrev pub free_at : (text_at : ℕ) → ℕ
  free_at text_at = realloc_at text_at + 4 * length realloc_words

  abbrev pub entries : (text_at : ℕ) → Entries
  entries text_at = record {
    malloc = words_at text_at + 4;
    calloc = calloc_at text_at + 8;
    realloc = realloc_at text_at + 8;
    free = free_at text_at + 4;
    malloc_r = words_at text_at;
    calloc_r = calloc_at text_at;
    realloc_r = realloc_at text_at;
    free_r = free_at text_at;
  }

-- the bytes of words
abbrev pub bytes_of : List ℕ → List ℕ
bytes_of words = flat_map (low_bytes 4) words
