-- The words of the heap functions.
use Rattle.std.proofs.Common.{◌≡◌, ℕ, ◌+◌, ◌==◌, ◌||◌, List, [], ◌∷◌, refl, sym, ap, Option, Some, None, ◌<◌, ◌≤◌}
use Rattle.std.proofs.Common.{get_or, length, map, arith}
use Rattle.std.specs.List.{filter_map, list_any}
use Rattle.elf_spec.specs.declared.HeapName.{HeapName}
use Rattle.elf_spec.specs.declared.HeapName.TheVariants.{Malloc, Calloc, Realloc, Free, MallocR, CallocR, ReallocR}
use Rattle.elf_spec.specs.declared.HeapName.TheVariants.{FreeR}
use Rattle.elf_spec.specs.Heap.{heap_entries, heap_entry, heap_names}
use Rattle.site_spec.specs.Sites.{is_heap_word}
use Rattle.exec_image.specs.declared.heap.HeapEntry.{HeapEntry}
use Rattle.exec_image.specs.Calls.{is_word_of}
use Rattle.exec_image.specs.CodeParts.{IsHeap, entry_of}

any_given : (a : ℕ) (f : HeapName → Option ℕ) (names : List HeapName)
    → list_any (λ e. (e == a) || (e + 4 == a)) (filter_map f names) ≡ list_any (λ n. is_word_of a (f n)) names
any_given a f [] = refl
any_given a f (n ∷ names) = decide (f n) refl (any_given a f names)
  where
    decide : (o : Option ℕ) → f n ≡ o → list_any (λ e. (e == a) || (e + 4 == a)) (filter_map f names)
        ≡ list_any (λ n. is_word_of a (f n)) names
        → list_any (λ e. (e == a) || (e + 4 == a)) (filter_map f (n ∷ names))
        ≡ list_any (λ n. is_word_of a (f n)) (n ∷ names)
    decide (Some e) h ih = rw h (ap (λ b. ((e == a) || (e + 4 == a)) || b) ih)
    decide None h ih = rw h ih

pub heap_word : (file : List ℕ) (heap : List HeapEntry) (a : ℕ) → IsHeap file heap
    → list_any (λ e. is_word_of a e.addr) heap ≡ is_heap_word file a
unfolding heap_entries
heap_word file heap a h =
    rw h (sym (any_given a (heap_entry file) heap_names))

-- each name is among the first eight
eight_named : (file : List ℕ) (name : HeapName) (i : ℕ) → 8 ≤ i
    → ((k : ℕ) (d : HeapEntry) → k < i → (get_or (map (entry_of file) heap_names) k d).name ≡ name → ⊥) → ⊥
eight_named file Malloc i l none = none 0 (entry_of file Malloc) (omega (arith, l)) refl
eight_named file Calloc i l none = none 1 (entry_of file Malloc) (omega (arith, l)) refl
eight_named file Realloc i l none = none 2 (entry_of file Malloc) (omega (arith, l)) refl
eight_named file Free i l none = none 3 (entry_of file Malloc) (omega (arith, l)) refl
eight_named file MallocR i l none = none 4 (entry_of file Malloc) (omega (arith, l)) refl
eight_named file CallocR i l none = none 5 (entry_of file Malloc) (omega (arith, l)) refl
eight_named file ReallocR i l none = none 6 (entry_of file Malloc) (omega (arith, l)) refl
eight_named file FreeR i l none = none 7 (entry_of file Malloc) (omega (arith, l)) refl

pub some_named : (file : List ℕ) (heap : List HeapEntry) (name : HeapName) (i : ℕ) → IsHeap file heap → length heap ≤ i
    → ((k : ℕ) (d : HeapEntry) → k < i → (get_or heap k d).name ≡ name → ⊥) → ⊥
some_named file heap name i h l none = eight_named file name i (rw h at l) (rw h at none)
