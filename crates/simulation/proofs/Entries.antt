-- The entries of heap functions: a function that is found at an address has its entry there.
use Rattle.std.proofs.Common.{◌≡◌, ℕ, List, [], ◌∷◌, Bool, true, false, cond, refl, ap, subst, arith}
use Rattle.std.specs.Prelude.{Option, Some, None, find}
use Rattle.std.proofs.lemmas.Bool.Decides.{nat_tests}
use Rattle.elf_spec.specs.declared.HeapName.{HeapName}
use Rattle.elf_spec.specs.Heap.{heap_names, heap_entry}
use Rattle.sym_spec.specs.HeapActions.{is_entry, function_at}

found_passes : (test : HeapName → Bool) (names : List HeapName) (name : HeapName) → find test names ≡ Some name
    → test name ≡ true
found_passes test [] name e = absurd (cc)
found_passes test (x ∷ xs) name e = at (test x) refl (found_passes test xs name) e
  where
    at : (t : Bool) → test x ≡ t → (find test xs ≡ Some name → test name ≡ true)
        → cond t (Some x) (find test xs) ≡ Some name → test name ≡ true
    at true c ih e = let same : x ≡ name = cc in subst (λ y. test y ≡ true) same c
    at false c ih e = ih e

entry_is : (a : ℕ) (o : Option ℕ) → is_entry a o ≡ true → o ≡ Some a
entry_is a (Some e) h = let same : e ≡ a = grind (arith, nat_tests) in ap (λ x. Some x) same
entry_is a None h = absurd (cc)

pub entry_there : (file : List ℕ) (a : ℕ) (name : HeapName) → function_at file a ≡ Some name
    → heap_entry file name ≡ Some a
entry_there file a name e =
    entry_is a (heap_entry file name)
    (found_passes (λ name. is_entry a (heap_entry file name)) heap_names name e)
