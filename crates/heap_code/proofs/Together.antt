-- The heap functions serve every request at each of their entries.
use Rattle.std.proofs.Common.{◌≡◌, ℕ, ◌+◌, ◌^◌, ◌≤◌, List, ◌∙◌, arith}
use Rattle.plan_core.specs.declared.types.Area.{Area}
use Rattle.plan_core.specs.declared.types.Row.{Row}
use Rattle.heap_spec.specs.Requests.{Plain, Reentrant}
use Rattle.heap_spec.specs.Service.{Suits, ServesHeap}
use Rattle.heap_holes.specs.Fits.{TablesFit}
use Rattle.heap_chunks.specs.Results.{HasRoom}
use Rattle.heap_code.specs.Words.{all_words, entries}
use Rattle.heap_code.proofs.Functions.{Given, malloc_serves, calloc_serves, realloc_serves, free_serves}

-- what suits has room
module _ (rows : List Row) (area : Area) (text_at data_at : ℕ) (s : Suits rows area text_at data_at) where
  pub room : HasRoom area data_at
  room = record {
    aligned = let p = s.page in let t = s.tables in omega (arith, p, t);
    end = let b = s.below_stack in omega (arith, b);
    chunks = s.chunks;
    log_chunk = s.log_chunk;
    granules = s.granules;
  }

  pub fit : TablesFit area data_at
  fit = record {
    aligned = let p = s.page in let t = s.tables in omega (arith, p, t);
    above = let t = s.tables in omega (arith, t);
    below = let b = s.below_stack in omega (arith, b);
  }

  pub front : data_at + 128 ≤ 2 ^ 32
  front = let b = s.below_stack in omega (arith, b)

none : (a : ℕ) → a ≡ a + 0
none a = omega arith

pub serves_heap : (rows : List Row) (area : Area) (text_at data_at : ℕ) → Given rows area text_at data_at
    → ServesHeap rows area text_at data_at (all_words rows area data_at) (entries rows area data_at text_at)
serves_heap rows area text_at data_at given = record {
  malloc = λ layout m input output ready good. malloc_serves rows area text_at
      data_at given layout m input output _ ready Plain ready.pc;
  calloc = λ layout m input output ready good. calloc_serves rows area text_at
      data_at given layout m input output _ ready Plain ready.pc;
  realloc = λ layout m input output ready good. realloc_serves rows area text_at
      data_at given layout m input output _ ready Plain ready.pc good;
  free = λ layout m input output ready good. free_serves rows area text_at
      data_at given layout m input output _ ready Plain ready.pc good;
  malloc_r = λ layout m input output ready good. malloc_serves rows area text_at
      data_at given layout m input output _ ready Reentrant (ready.pc ∙ none _);
  calloc_r = λ layout m input output ready good. calloc_serves rows area text_at
      data_at given layout m input output _ ready Reentrant (ready.pc ∙ none _);
  realloc_r = λ layout m input output ready good. realloc_serves rows area
      text_at data_at given layout m input output _ ready Reentrant (ready.pc ∙ none _) good;
  free_r = λ layout m input output ready good. free_serves rows area text_at
      data_at given layout m input output _ ready Reentrant (ready.pc ∙ none _) good;
}
