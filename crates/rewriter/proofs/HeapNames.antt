-- The heap functions of an executable by their names, and the patches at their entries.
use Rattle.std.proofs.Common.{◌≡◌, ℕ, suc, ◌+◌, ◌^◌, ◌<◌, ◌≤◌, true, List, [], ◌∷◌, ◌++◌, Option, Some, None, is_some}
use Rattle.std.proofs.Common.{length, refl, sym, ap, ◌∙◌, arith, append-nil, append_assoc}
use Rattle.std.specs.Prelude.{nat_lt}
use Rattle.std.specs.List.{filter_map, list_any}
use Rattle.std.proofs.lemmas.Bool.Decides.{nat_tests}
use Rattle.rv_isa.specs.declared.Instr.TheVariants.{Auipc, Jalr}
use Rattle.rv_isa.specs.Addresses.{minus}
use Rattle.rv_isa.specs.Encoded.{encoded}
use Rattle.rv_isa.specs.Split.{split_of}
use Rattle.elf_spec.specs.declared.HeapName.{HeapName}
use Rattle.elf_spec.specs.declared.Patch.{Patch}
use Rattle.elf_spec.specs.Code.{code_place, code_word}
use Rattle.elf_spec.specs.Heap.{heap_entries, heap_entry, heap_names}
use Rattle.elf_spec.specs.Memory.{image_end}
use Rattle.elf_spec.specs.Records.{segments_of}
use Rattle.elf_spec.proofs.CodePlaces.{place_of}
use Rattle.new_file_spec.specs.Rewritten.{has_heap, heap_jump, patch_to, patches_at}
use Rattle.exec_image.specs.Accepted.{AcceptedFacts}

some_given : (f : HeapName → Option ℕ) (names : List HeapName)
    → list_any (λ name. is_some (f name)) names ≡ nat_lt 0 (length (filter_map f names))
some_given f [] = refl
some_given f (x ∷ xs) = by_first (f x) refl (some_given f xs)
  where
    by_first : (o : Option ℕ) → f x ≡ o
        → list_any (λ name. is_some (f name)) xs ≡ nat_lt 0 (length (filter_map f xs))
        → list_any (λ name. is_some (f name)) (x ∷ xs) ≡ nat_lt 0 (length (filter_map f (x ∷ xs)))
    by_first (Some v) q more =
        let some : nat_lt 0 (suc (length (filter_map f xs))) ≡ true = grind (arith, nat_tests) in
        rw (q, some) refl
    by_first None q more = rw q more

-- an executable has heap functions where it has the entry of a name
pub entry_given : (file : List ℕ) → list_any (λ name. is_some (heap_entry file name)) heap_names ≡ has_heap file
unfolding heap_entries
entry_given file = some_given (heap_entry file) heap_names

-- the two patches at an entry
pub two_patches : (file : List ℕ) (to e : ℕ) (old : List Patch)
    → (old ++ patch_to (encoded (Auipc 5 (split_of (minus to e)).0)) (code_place file e))
    ++ patch_to (encoded (Jalr 0 5 (split_of (minus to e)).1)) (code_place file (e + 4))
    ≡ old ++ patches_at file e (heap_jump to e)
two_patches file to e old =
    let first : List Patch = patch_to (encoded (Auipc 5 (split_of (minus to e)).0)) (code_place file e) in
    let second : List Patch = patch_to (encoded (Jalr 0 5 (split_of (minus to e)).1)) (code_place file (e + 4)) in
    append_assoc old first second ∙ ap (λ ps. old ++ (first ++ ps)) (sym (append-nil second))

-- an entry is the address of a code word
pub entry_low : (file : List ℕ) (name : HeapName) (e : ℕ) → AcceptedFacts file → Some e ≡ heap_entry file name
    → e < 2 ^ 31
entry_low file name e facts there =
    let code : is_some (code_word file e) ≡ true = (facts.heap name e (sym there)).0 in
    let (place, at) = place_of file e code in
    let below : e + 4 ≤ image_end (segments_of file) = facts.code_end e place at in
    omega (arith, below, facts.end)

pub ruleset pair = (two_patches)

pub ruleset entries = (entry_low)
