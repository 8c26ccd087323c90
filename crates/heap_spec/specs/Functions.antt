-- The heap functions by the names of their symbols: what each is asked for, where its arguments begin, and
-- where its entry is among the heap's words.
use Rattle.std.specs.Prelude.{◌≡◌, ℕ, ◌+◌, ◌*◌, ◌%◌, ◌<◌, ◌≤◌, List, length}
use Rattle.elf_spec.specs.declared.HeapName.{HeapName}
use Rattle.elf_spec.specs.declared.HeapName.TheVariants.{Malloc, Calloc, Realloc, Free, MallocR, CallocR, ReallocR}
use Rattle.elf_spec.specs.declared.HeapName.TheVariants.{FreeR}
use Rattle.heap_spec.specs.Requests as requests
use Rattle.heap_spec.specs.Requests.{Call, Form, Plain, Reentrant}
use Rattle.heap_spec.specs.Service.{Entries, words_at}

abbrev pub call_of : HeapName → Call
call_of Malloc = requests.Malloc
call_of Calloc = requests.Calloc
call_of Realloc = requests.Realloc
call_of Free = requests.Free
call_of MallocR = requests.Malloc
call_of CallocR = requests.Calloc
call_of ReallocR = requests.Realloc
call_of FreeR = requests.Free

abbrev pub form_of : HeapName → Form
form_of Malloc = Plain
form_of Calloc = Plain
form_of Realloc = Plain
form_of Free = Plain
form_of MallocR = Reentrant
form_of CallocR = Reentrant
form_of ReallocR = Reentrant
form_of FreeR = Reentrant

abbrev pub entry_of : Entries → HeapName → ℕ
entry_of at Malloc = at.malloc
entry_of at Calloc = at.calloc
entry_of at Realloc = at.realloc
entry_of at Free = at.free
entry_of at MallocR = at.malloc_r
entry_of at CallocR = at.calloc_r
entry_of at ReallocR = at.realloc_r
entry_of at FreeR = at.free_r

-- an address is that of one of the words
abbrev pub IsWord : (text_at : ℕ) → List ℕ → ℕ → Type 0
IsWord text_at words a = (words_at text_at ≤ a) × (a < words_at text_at + 4 * length words) × (a % 4 ≡ 0)
