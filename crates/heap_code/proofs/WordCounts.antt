-- The four functions are formed, and with their entries they have at most 4096 words.
use Rattle.std.proofs.Common.{◌≡◌, ℕ, ◌+◌, ◌<◌, ◌≤◌, List, [], ◌∷◌, ◌++◌, true, length, length-append, arith}
use Rattle.std.specs.Prelude.{All}
use Rattle.std.proofs.lemmas.List.{length-map}
use Rattle.rv_isa.specs.Encoded.{encoded}
use Rattle.rv_isa.specs.declared.Instr.TheVariants.{Jalr}
use Rattle.plan_core.specs.declared.types.Area.{Area}
use Rattle.plan_core.specs.declared.types.Row.{Row}
use Rattle.place_spec.proofs.Lists.{each}
use Rattle.frag_code.specs.Fragments.{Fragment}
use Rattle.frag_code.specs.Forms.{HasFields, IsFormed}
use Rattle.frag_code.specs.Code.{instructions_of, code_of}
use Rattle.frag_rules.specs.Checks.{has_fields, words_in}
use Rattle.heap_code.specs.Calls.{malloc_code, calloc_code, free_code}
use Rattle.heap_code.specs.Moving.{realloc_code}
use Rattle.heap_code.specs.Words as specs
use Rattle.heap_code.specs.Words.{entry_words, returning_words, all_words}
use Rattle.heap_code.proofs.Forming.{grant_fields, calloc_fields, realloc_fields, release_call_fields, grant_words}
use Rattle.heap_code.proofs.Forming.{calloc_words, realloc_words, release_call_words}

module _ (fields : (f : Fragment) → has_fields f ≡ true → HasFields f) (words : (f : Fragment)
    → length (instructions_of f) ≡ words_in f) where
  pub malloc_formed : (rows : List Row) (area : Area) (data_at : ℕ) → All (λ row. row.group < 16) rows
      → length rows ≤ 64 → area.log_chunk < 32
      → IsFormed (malloc_code rows area data_at)
  malloc_formed rows area data_at groups few log = record {
    fields = fields (malloc_code rows area data_at) (grant_fields rows area (each _ rows groups) log data_at);
    size = let w = words (malloc_code rows area data_at) in let n = grant_words rows area data_at in
        omega (arith, w, n, few);
  }

  pub calloc_formed : (rows : List Row) (area : Area) (data_at : ℕ) → All (λ row. row.group < 16) rows
      → length rows ≤ 64 → area.log_chunk < 32
      → IsFormed (calloc_code rows area data_at)
  calloc_formed rows area data_at groups few log = record {
    fields = fields (calloc_code rows area data_at) (calloc_fields rows area (each _ rows groups) log data_at);
    size = let w = words (calloc_code rows area data_at) in let n = calloc_words rows area data_at in
        omega (arith, w, n, few);
  }

  pub realloc_formed : (rows : List Row) (area : Area) (data_at : ℕ) → All (λ row. row.group < 16) rows
      → length rows ≤ 64 → area.log_chunk < 32
      → IsFormed (realloc_code rows area data_at)
  realloc_formed rows area data_at groups few log = record {
    fields = fields (realloc_code rows area data_at) (realloc_fields rows area (each _ rows groups) log data_at);
    size = let w = words (realloc_code rows area data_at) in let n = realloc_words rows area data_at in
        omega (arith, w, n, few);
  }

  pub free_formed : (area : Area) (data_at : ℕ) → area.log_chunk < 32 → IsFormed (free_code area data_at)
  free_formed area data_at log = record {
    fields = fields (free_code area data_at) (release_call_fields area data_at log);
    size = let w = words (free_code area data_at) in let n = release_call_words area data_at in omega (arith, w, n);
  }

  -- one word more than the function's, or two
  returning_long : (f : Fragment) → length (returning_words f) ≡ words_in f + 1
  returning_long f =
      let a = length-append (code_of f) (encoded (Jalr 0 1 0) ∷ []) in
      let m = length-map (instructions_of f) encoded in
      let w = words f in omega (arith, a, m, w)

  entry_long : (f : Fragment) → length (entry_words f) ≡ words_in f + 2
  entry_long f =
      let r = returning_long f in omega (arith, r)

  pub few_words : (rows : List Row) (area : Area) (data_at : ℕ) → length rows ≤ 64
      → length (all_words rows area data_at) ≤ 4096
  few_words rows area data_at few =
      let a = length-append (specs.malloc_words rows area data_at) (specs.calloc_words rows area data_at
      ++ (specs.realloc_words rows area data_at ++ specs.free_words area data_at)) in
      let b = length-append (specs.calloc_words rows area data_at) (specs.realloc_words rows area data_at
      ++ specs.free_words area data_at) in
      let c = length-append (specs.realloc_words rows area data_at) (specs.free_words area data_at) in
      let m = entry_long (malloc_code rows area data_at) in
      let n = entry_long (calloc_code rows area data_at) in
      let o = entry_long (realloc_code rows area data_at) in
      let p = returning_long (free_code area data_at) in
      let wm = grant_words rows area data_at in
      let wn = calloc_words rows area data_at in
      let wo = realloc_words rows area data_at in
      let wp = release_call_words area data_at in
      omega (arith, a, b, c, m, n, o, p, wm, wn, wo, wp, few)
