-- What the heap functions of an executable are refused for (gABI, "Symbol Table"). A heap function's
-- first eight bytes are its two words.
use Rattle.std.specs.Prelude.{ℕ, ◌+◌, ◌==◌, Bool, false, not, ◌&&◌, ◌||◌, List, filter, Option, Some, None, is_some}
use Rattle.std.specs.Prelude.{nat_le}
use Rattle.std.specs.List.{list_any}
use Rattle.elf_spec.specs.declared.HeapName.{HeapName}
use Rattle.elf_spec.specs.declared.Symbol.{Symbol}
use Rattle.elf_spec.specs.Code.{code_word}
use Rattle.elf_spec.specs.Heap.{heap_entry, is_heap_symbol}
use Rattle.elf_spec.specs.Tables.{symbols_of}
use Rattle.elf_read.specs.Checks.{is_shared}

-- the symbols of a heap function
abbrev pub heap_symbols : List ℕ → HeapName → List Symbol
heap_symbols file name = filter (is_heap_symbol file name) (symbols_of file)

-- two of them have different values
abbrev pub has_two_values : List ℕ → HeapName → Bool
has_two_values file name =
    list_any (λ s. list_any (λ t. not (s.value == t.value)) (heap_symbols file name)) (heap_symbols file name)

-- two heap functions have one of their eight bytes in common
abbrev pub is_overlap : Option ℕ → Option ℕ → Bool
is_overlap (Some a) (Some b) = is_shared a 8 b 8
is_overlap _ _ = false

-- the function's place isn't sure, or meets that of one before
unfoldable pub is_twice : List ℕ → List HeapName → HeapName → Bool
is_twice file before name =
    has_two_values file name || list_any (λ earlier. is_overlap (heap_entry file earlier) (heap_entry file name)) before

-- one of the two words at an address is no code word
abbrev pub lacks_words : List ℕ → Option ℕ → Bool
lacks_words file (Some a) = not (is_some (code_word file a)) || not (is_some (code_word file (a + 4)))
lacks_words file None = false

-- the function hasn't the two words that it needs, or a symbol says so
unfoldable pub is_small : List ℕ → HeapName → Bool
is_small file name =
    lacks_words file (heap_entry file name)
    || list_any (λ s. nat_le 1 s.size && nat_le s.size 7) (heap_symbols file name)
