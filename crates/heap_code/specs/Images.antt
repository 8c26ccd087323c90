-- The entries of built heap functions, and where they stand.
use Rattle.std.specs.Prelude.{ℕ, List}
use Rattle.heap_spec.specs.Service.{Entries}
use Rattle.heap_spec.specs.Functions.{IsWord}
use Rattle.heap_code.specs.declared.image.HeapImage.{HeapImage}

abbrev pub entries_in : HeapImage → Entries
entries_in image = record {
  malloc = image.malloc;
  calloc = image.calloc;
  realloc = image.realloc;
  free = image.free;
  malloc_r = image.malloc_r;
  calloc_r = image.calloc_r;
  realloc_r = image.realloc_r;
  free_r = image.free_r;
}

-- each of the entries is the address of one of the words
pub record Holds (text_at : ℕ) (words : List ℕ) (at : Entries) : Type 0 where
  pub malloc : IsWord text_at words at.malloc
  pub calloc : IsWord text_at words at.calloc
  pub realloc : IsWord text_at words at.realloc
  pub free : IsWord text_at words at.free
  pub malloc_r : IsWord text_at words at.malloc_r
  pub calloc_r : IsWord text_at words at.calloc_r
  pub realloc_r : IsWord text_at words at.realloc_r
  pub free_r : IsWord text_at words at.free_r
