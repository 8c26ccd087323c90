-- The second words of the heap functions.
use Rattle.std.proofs.Common.{◌≡◌, ℕ, ◌+◌, ◌==◌, ◌||◌, List, [], ◌∷◌, refl, sym, ap, Option, Some, None}
use Rattle.std.specs.List.{filter_map, list_any}
use Rattle.elf_spec.specs.declared.HeapName.{HeapName}
use Rattle.elf_spec.specs.Heap.{heap_entries, heap_entry, heap_names}
use Rattle.sym_machine.specs.Heap.{is_behind}

any_given : (a : ℕ) (f : HeapName → Option ℕ) (names : List HeapName)
    → list_any (λ e. e + 4 == a) (filter_map f names) ≡ list_any (λ n. is_behind a (f n)) names
any_given a f [] = refl
any_given a f (n ∷ names) = decide (f n) refl (any_given a f names)
  where
    decide : (o : Option ℕ) → f n ≡ o
        → list_any (λ e. e + 4 == a) (filter_map f names) ≡ list_any (λ n. is_behind a (f n)) names
        → list_any (λ e. e + 4 == a) (filter_map f (n ∷ names)) ≡ list_any (λ n. is_behind a (f n)) (n ∷ names)
    decide (Some e) h ih = rw h (ap (λ b. (e + 4 == a) || b) ih)
    decide None h ih = rw h ih

pub second_words : (file : List ℕ) (a : ℕ)
    → list_any (λ name. is_behind a (heap_entry file name)) heap_names ≡ list_any (λ e. e + 4 == a) (heap_entries file)
unfolding heap_entries
second_words file a = sym (any_given a (heap_entry file) heap_names)
