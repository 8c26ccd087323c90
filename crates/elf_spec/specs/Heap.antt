-- The heap functions of an executable, known by the names of its symbols: those with binding GLOBAL
-- (1) or WEAK (2), type FUNC (2) and a section (gABI, "Symbol Table").
use Rattle.std.specs.Prelude.{ℕ, ◌/◌, ◌%◌, ◌==◌, List, [], ◌∷◌, Bool, not, ◌&&◌, ◌||◌, find, filter_map, Option}
use Rattle.std.specs.Prelude.{option_map, codes, bytes_eq}
use Rattle.elf_spec.specs.declared.Symbol.{Symbol}
use Rattle.elf_spec.specs.declared.HeapName.{HeapName}
use Rattle.elf_spec.specs.declared.HeapName.TheVariants.{Malloc, Calloc, Realloc, Free, MallocR, CallocR, ReallocR}
use Rattle.elf_spec.specs.declared.HeapName.TheVariants.{FreeR}
use Rattle.elf_spec.specs.Tables.{symbols_of, symbol_name}

abbrev pub heap_name : HeapName → List ℕ
heap_name Malloc = codes "malloc"
heap_name Calloc = codes "calloc"
heap_name Realloc = codes "realloc"
heap_name Free = codes "free"
heap_name MallocR = codes "_malloc_r"
heap_name CallocR = codes "_calloc_r"
heap_name ReallocR = codes "_realloc_r"
heap_name FreeR = codes "_free_r"

-- the names, in the order in which they are looked at: those of C, and their reentrant forms in newlib
abbrev pub heap_names : List HeapName
heap_names = Malloc ∷ Calloc ∷ Realloc ∷ Free ∷ MallocR ∷ CallocR ∷ ReallocR ∷ FreeR ∷ []

abbrev pub is_heap_symbol : List ℕ → HeapName → Symbol → Bool
is_heap_symbol file name s =
    bytes_eq (symbol_name file s) (heap_name name) && (((s.info / 16 == 1) || (s.info / 16 == 2)) &&
    ((s.info % 16 == 2) && not (s.section == 0)))

-- the address of a heap function; none where the executable lacks it
abbrev pub heap_entry : List ℕ → HeapName → Option ℕ
heap_entry file name = option_map (λ s. s.value) (find (is_heap_symbol file name) (symbols_of file))

-- the addresses of all of them
unfoldable pub heap_entries : List ℕ → List ℕ
heap_entries file = filter_map (heap_entry file) heap_names
