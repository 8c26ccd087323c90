-- Two heap functions of an accepted file share none of their eight bytes.
use Rattle.std.proofs.Common.{◌≡◌, ◌≢◌, ℕ, zero, suc, ◌<◌, Bool, true, false, List, [], ◌∷◌}
use Rattle.std.proofs.Common.{get_or, length, take, nat_lt, refl, sym, ap, ◌∙◌, subst, arith}
use Rattle.std.proofs.Common.{Some, None}
use Rattle.std.specs.List.{All, list_any}
use Rattle.std.specs.Prelude.{slice_get}
use Rattle.std.proofs.lemmas.Bool.Decides.{nat_tests}
use Rattle.std.proofs.lemmas.List.{get_or-take}
use Rattle.std.proofs.lemmas.Option.{get_or_from_slice_get, slice_get_within}
use Rattle.elf_spec.specs.declared.HeapName.{HeapName}
use Rattle.elf_spec.specs.declared.HeapName.TheVariants.{Malloc, Calloc, Realloc, Free, MallocR, CallocR, ReallocR}
use Rattle.elf_spec.specs.declared.HeapName.TheVariants.{FreeR}
use Rattle.elf_spec.specs.Heap.{heap_entry, heap_names}
use Rattle.elf_read.specs.Checks.{is_shared}
use Rattle.exec_image.specs.declared.refusals.FileRefusal.TheVariants.{HeapEntryTwice}
use Rattle.exec_image.specs.HeapChecks.{has_two_values, is_overlap, is_twice}
use Rattle.exec_image.specs.Refusals.{heap_entry_twice, twice_fault}
use Rattle.first_check.proofs.Items.{item_passes}
use Rattle.exec_image.proofs.Passed.{both_false, not_when}
use Rattle.exec_image.proofs.PlanFits.{none_of_any}

-- where a name stands among the names
abbrev pub place_of : HeapName → ℕ
place_of Malloc = 0
place_of Calloc = 1
place_of Realloc = 2
place_of Free = 3
place_of MallocR = 4
place_of CallocR = 5
place_of ReallocR = 6
place_of FreeR = 7

pub in_place : (name : HeapName) → slice_get heap_names (place_of name) ≡ Some name
in_place Malloc = refl
in_place Calloc = refl
in_place Realloc = refl
in_place Free = refl
in_place MallocR = refl
in_place CallocR = refl
in_place ReallocR = refl
in_place FreeR = refl

-- a function overlaps none of some others
abbrev IsBeside : List ℕ → List HeapName → HeapName → Type 0
IsBeside file before name = All (λ x. is_overlap (heap_entry file x) (heap_entry file name) ≡ false) before

beside_before : (file : List ℕ) (before : List HeapName) (name : HeapName) → is_twice file before name ≡ false
    → IsBeside file before name
unfolding is_twice
beside_before file before name h =
    none_of_any (λ x. is_overlap (heap_entry file x) (heap_entry file name)) before
    (both_false (has_two_values file name) (list_any (λ x. is_overlap (heap_entry file x) (heap_entry file name))
    before) h).1

-- a name overlaps none that stands before it
beside_earlier : (file : List ℕ) (n m : HeapName) → heap_entry_twice file ≡ None → place_of n < place_of m
    → is_overlap (heap_entry file n) (heap_entry file m) ≡ false
unfolding heap_entry_twice
beside_earlier file n m h low =
    let below : place_of m < length heap_names = slice_get_within heap_names (place_of m) m (in_place m) in
    let here : get_or heap_names (place_of m) m ≡ m = get_or_from_slice_get heap_names (place_of m) m m (in_place m) in
    let once : twice_fault file heap_names (place_of m) (get_or heap_names (place_of m) m) ≡ None =
    item_passes (twice_fault file heap_names) heap_names h (place_of m) m below in
    let all : IsBeside file (take (place_of m) heap_names) m =
    beside_before file (take (place_of m) heap_names) m
    (not_when (is_twice file (take (place_of m) heap_names) m) (HeapEntryTwice m) (rw here at once)) in
    let is : get_or (take (place_of m) heap_names) (place_of n) n ≡ n =
    get_or-take (place_of m) heap_names (place_of n) n low
    ∙ get_or_from_slice_get heap_names (place_of n) n n (in_place n) in
    subst (λ x. is_overlap (heap_entry file x) (heap_entry file m) ≡ false) is
    (all (place_of n) n (within (place_of n) (place_of m) heap_names low below))
  where
    within : (i j : ℕ) (xs : List HeapName) → i < j → j < length xs → i < length (take j xs)
    within i j [] l b = absurd (omega (arith, b))
    within zero (suc j) (x ∷ xs) l b = omega arith
    within (suc i) (suc j) (x ∷ xs) l b =
        let more : i < length (take j xs) = within i j xs (omega (arith, l)) (omega (arith, b)) in omega (arith, more)
    within i zero (x ∷ xs) l b = absurd (omega (arith, l))

turned : (a b : ℕ) → is_shared a 8 b 8 ≡ false → is_shared b 8 a 8 ≡ false
turned a b h = grind (arith, nat_tests)

pub heap_apart : (file : List ℕ) → heap_entry_twice file ≡ None → (n m : HeapName) (a b : ℕ) → n ≢ m
    → heap_entry file n ≡ Some a → heap_entry file m ≡ Some b → is_shared a 8 b 8 ≡ false
heap_apart file h n m a b other e f = by_order (nat_lt (place_of n) (place_of m)) (nat_lt (place_of m) (place_of n))
    refl refl
  where
    ordered : (n m : HeapName) (a b : ℕ) → heap_entry file n ≡ Some a → heap_entry file m ≡ Some b
        → place_of n < place_of m
        → is_shared a 8 b 8 ≡ false
    ordered n m a b e f low = let q : is_overlap (heap_entry file n) (heap_entry file m) ≡ false =
        beside_earlier file n m h low in
        rw (e, f) at q

    by_order : (s t : Bool) → nat_lt (place_of n) (place_of m) ≡ s → nat_lt (place_of m) (place_of n) ≡ t
        → is_shared a 8 b 8 ≡ false
    by_order true t p q = ordered n m a b e f (grind (arith, nat_tests))
    by_order false true p q = turned b a (ordered m n b a f e (grind (arith, nat_tests)))
    by_order false false p q =
        let same : place_of n ≡ place_of m = grind (arith, nat_tests) in
        let both : Some n ≡ Some m = sym (in_place n) ∙ (ap (slice_get heap_names) same ∙ in_place m) in
        let one : n ≡ m = cc in
        absurd (other one)
