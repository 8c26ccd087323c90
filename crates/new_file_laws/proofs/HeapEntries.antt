-- The entries of heap functions: their words, which no site has, and the patches there.
use Rattle.std.proofs.Common.{◌≡◌, ◌≢◌, inl, inr, ℕ, zero, suc, ◌+◌, ◌-◌, ◌*◌, ◌<◌, ◌==◌, ◌&&◌, ◌||◌, not, Bool, true}
use Rattle.std.proofs.Common.{false, cond, List, [], ◌∷◌, get_or, refl, ap, sym, ◌∙◌, subst, arith}
use Rattle.std.specs.Prelude.{Option, Some, None, is_some, nat_le, filter_map, flat_map, find, slice_get, All, AllPairs}
use Rattle.std.specs.List.{list_any}
use Rattle.std.proofs.lemmas.Bool.Decides.{nat_tests}
use Rattle.std.proofs.lemmas.List.Elements.{All-append, All-nil, All-weaker}
use Rattle.std.proofs.lemmas.Option.{slice_get-get_or, slice_get_within}
use Rattle.elf_spec.specs.declared.HeapName.{HeapName}
use Rattle.elf_spec.specs.declared.HeapName.TheVariants.{Malloc, Calloc, Realloc, Free, MallocR, CallocR, ReallocR}
use Rattle.elf_spec.specs.declared.HeapName.TheVariants.{FreeR}
use Rattle.elf_spec.specs.declared.Patch.{Patch}
use Rattle.elf_spec.specs.Code.{code_place, code_word}
use Rattle.elf_spec.specs.Heap.{heap_names, heap_entry, heap_entries}
use Rattle.site_spec.specs.declared.Site.{Site}
use Rattle.site_spec.specs.Sites.{call_at, code_at, is_heap_word, site_at}
use Rattle.heap_spec.specs.Functions.{entry_of}
use Rattle.heap_spec.specs.Service.{Entries}
use Rattle.new_file_spec.specs.Rewritten.{heap_jump, heap_patch, heap_patches, patches_at}
use Rattle.sym_spec.specs.HeapActions.{function_at, is_entry}
use Rattle.sym_spec.specs.SymTurns.{is_pair, is_second}
use Rattle.new_file_laws.proofs.Lines.{IsAmong, IsWordAt, among_at, among_behind, among_front, each_at}
use Rattle.new_file_laws.proofs.SiteKinds.{IsWordOf, kept, site_addr}

-- where a name stands among the names
abbrev place_of : HeapName → ℕ
place_of Malloc = 0
place_of Calloc = 1
place_of Realloc = 2
place_of Free = 3
place_of MallocR = 4
place_of CallocR = 5
place_of ReallocR = 6
place_of FreeR = 7

in_place : (name : HeapName) → slice_get heap_names (place_of name) ≡ Some name
in_place Malloc = refl
in_place Calloc = refl
in_place Realloc = refl
in_place Free = refl
in_place MallocR = refl
in_place CallocR = refl
in_place ReallocR = refl
in_place FreeR = refl

-- an executable without heap functions has none of their entries
lacks : (f : HeapName → Option ℕ) (names : List HeapName) (name : HeapName) (k e : ℕ) → filter_map f names ≡ []
    → slice_get names k ≡ Some name → f name ≡ Some e → ⊥
lacks f [] name k e none there given = cc
lacks f (x ∷ xs) name k e none there given = by_first (λ j h. lacks f xs name j e h) k (f x) refl there
  where
    by_first : ((j : ℕ) → filter_map f xs ≡ [] → slice_get xs j ≡ Some name → f name ≡ Some e → ⊥) → (k : ℕ)
        → (o : Option ℕ) → f x ≡ o → slice_get (x ∷ xs) k ≡ Some name → ⊥
    by_first more k (Some v) q there =
        let some : filter_map f (x ∷ xs) ≡ v ∷ filter_map f xs = rw q refl in
        let clash : [] ≡ v ∷ filter_map f xs = sym none ∙ some in cc
    by_first more zero None q there =
        let same : x ≡ name = cc in
        let clash : None ≡ Some e = sym q ∙ (ap f same ∙ given) in cc
    by_first more (suc k) None q there =
        let rest : filter_map f (x ∷ xs) ≡ filter_map f xs = rw q refl in
        more k (sym rest ∙ none) there given

pub lacks_all : (file : List ℕ) (name : HeapName) (e : ℕ) → heap_entries file ≡ [] → heap_entry file name ≡ Some e → ⊥
unfolding heap_entries
lacks_all file name e none given =
    lacks (heap_entry file) heap_names name (place_of name) e none (in_place name) given

-- what passes for the entry of one of the names passes for one of the entries
entry_passes : (f : HeapName → Option ℕ) (names : List HeapName) (name : HeapName) (k e : ℕ) (p : ℕ → Bool)
    → slice_get names k ≡ Some name → f name ≡ Some e → p e ≡ true → list_any p (filter_map f names) ≡ true
entry_passes f [] name k e p there given passes = absurd (cc)
entry_passes f (x ∷ xs) name zero e p there given passes =
    let same : x ≡ name = cc in
    let first : f x ≡ Some e = ap f same ∙ given in
    rw (first, passes) refl
entry_passes f (x ∷ xs) name (suc k) e p there given passes =
    by_first (f x) refl (entry_passes f xs name k e p there given passes)
  where
    either : (b c : Bool) → c ≡ true → (b || c) ≡ true
    either true c h = refl
    either false c h = h

    by_first : (o : Option ℕ) → f x ≡ o → list_any p (filter_map f xs) ≡ true
        → list_any p (filter_map f (x ∷ xs)) ≡ true
    by_first (Some v) q more = rw q (either (p v) (list_any p (filter_map f xs)) more)
    by_first None q more = rw q more

-- both words at an entry are heap words
pub entry_words : (file : List ℕ) (name : HeapName) (e i : ℕ) → heap_entry file name ≡ Some e → i < 2
    → is_heap_word file (e + 4 * i) ≡ true
unfolding heap_entries
entry_words file name e i there small =
    entry_passes (heap_entry file) heap_names name (place_of name) e (λ x. (x == e + 4 * i) || (x + 4 == e + 4 * i))
    (in_place name) there (passes i small)
  where
    passes : (i : ℕ) → i < 2 → ((e == e + 4 * i) || (e + 4 == e + 4 * i)) ≡ true
    passes zero small = let same : (e == e + 4 * 0) ≡ true = grind (arith, nat_tests) in rw same refl
    passes (suc zero) small =
        let other : (e == e + 4 * 1) ≡ false = grind (arith, nat_tests) in
        let same : (e + 4 == e + 4 * 1) ≡ true = grind (arith, nat_tests) in
        rw (other, same) refl
    passes (suc (suc i)) small = absurd (omega (arith, small))

-- where no function begins and no second word is, there is no heap word
none_here : (f : HeapName → Option ℕ) (names : List HeapName) (a : ℕ)
    → find (λ name. is_entry a (f name)) names ≡ None → list_any (λ e. e + 4 == a) (filter_map f names) ≡ false
    → list_any (λ e. (e == a) || (e + 4 == a)) (filter_map f names) ≡ false
none_here f [] a first second = refl
none_here f (x ∷ xs) a first second = by_entry (f x) refl first second (none_here f xs a)
  where
    neither : (p q r s : Bool) → cond p (Some x) None ≡ None → (q || r) ≡ false → s ≡ false
        → ((p || q) || s) ≡ false
    neither true q r s e g h = absurd (cc)
    neither false true r s e g h = absurd (cc)
    neither false false r s e g h = h

    both : (p : Bool) (o : Option HeapName) → cond p (Some x) o ≡ None → (cond p (Some x) None ≡ None) × (o ≡ None)
    both true o e = absurd (cc)
    both false o e = (refl, e)

    last : (q r : Bool) → (q || r) ≡ false → r ≡ false
    last true r e = absurd (cc)
    last false r e = e

    by_entry : (o : Option ℕ) → f x ≡ o → find (λ name. is_entry a (f name)) (x ∷ xs) ≡ None
        → list_any (λ e. e + 4 == a) (filter_map f (x ∷ xs)) ≡ false
        → (find (λ name. is_entry a (f name)) xs ≡ None → list_any (λ e. e + 4 == a) (filter_map f xs) ≡ false
        → list_any (λ e. (e == a) || (e + 4 == a)) (filter_map f xs) ≡ false)
        → list_any (λ e. (e == a) || (e + 4 == a)) (filter_map f (x ∷ xs)) ≡ false
    by_entry None q first second more = rw q (more (rw q at first) (rw q at second))
    by_entry (Some v) q first second more =
        let found : cond (v == a) (Some x) (find (λ name. is_entry a (f name)) xs) ≡ None = rw q at first in
        let behind : ((v + 4 == a) || list_any (λ e. e + 4 == a) (filter_map f xs)) ≡ false = rw q at second in
        let (here, rest) = both (v == a) (find (λ name. is_entry a (f name)) xs) found in
        rw q (neither (v == a) (v + 4 == a) (list_any (λ e. e + 4 == a) (filter_map f xs))
        (list_any (λ e. (e == a) || (e + 4 == a)) (filter_map f xs)) here behind
        (more rest (last (v + 4 == a) (list_any (λ e. e + 4 == a) (filter_map f xs)) behind)))

pub no_heap_word : (file : List ℕ) (a : ℕ) → function_at file a ≡ None → is_second file a ≡ false
    → is_heap_word file a ≡ false
unfolding heap_entries
no_heap_word file a first second =
    none_here (heap_entry file) heap_names a first
    (last (nat_le 4 a && is_pair (site_at file (a - 4))) (list_any (λ e. e + 4 == a) (heap_entries file)) second)
  where
    last : (q r : Bool) → (q || r) ≡ false → r ≡ false
    last true r e = absurd (cc)
    last false r e = e

-- no word of a site is one
pub site_words : (file : List ℕ) (a i : ℕ) (s : Site) → site_at file a ≡ Some s → IsWordOf file a s i
    → is_heap_word file (a + 4 * i) ≡ false
unfolding site_at
site_words file a i s e word =
    at (calls (is_some (code_word file s.target)) (is_heap_word file s.addr) s.pair (is_heap_word file (s.addr + 4))
    (kept file (call_at file a (code_at file a) (code_at file (a + 4))) s e).1) word
  where
    addr : s.addr ≡ a
    addr = site_addr file a s e

    calls : (c h p g : Bool) → (c && (not h && (not p || not g))) ≡ true → (h ≡ false) × (p ≡ true → g ≡ false)
    calls true false true false q = (refl, λ x. refl)
    calls true false true true q = absurd (cc)
    calls true false false g q = (refl, λ x. absurd (cc))
    calls true true p g q = absurd (cc)
    calls false h p g q = absurd (cc)

    at : (is_heap_word file s.addr ≡ false) × (s.pair ≡ true → is_heap_word file (s.addr + 4) ≡ false)
        → IsWordOf file a s i → is_heap_word file (a + 4 * i) ≡ false
    at (first, second) (inl none) =
        let same : s.addr ≡ a + 4 * i = omega (arith, none, addr) in
        subst (λ x. is_heap_word file x ≡ false) same first
    at (first, second) (inr (one, pair)) =
        let same : s.addr + 4 ≡ a + 4 * i = omega (arith, one, addr) in
        subst (λ x. is_heap_word file x ≡ false) same (second pair.pair)

-- the patch is that of a word at the entry of one of some functions
abbrev pub IsEntry : List ℕ → Entries → List HeapName → Patch → Type 0
IsEntry file at names p =
    (k : ℕ) × (name : HeapName) × (e : ℕ) × (slice_get names k ≡ Some name) × (heap_entry file name ≡ Some e)
    × IsWordAt file e (heap_jump (entry_of at name) e) p

-- the patches of one function
abbrev pub patches_of : List ℕ → Entries → HeapName → List Patch
patches_of file at name = heap_patch file (entry_of at name) (heap_entry file name)

pub entry_patches : (file : List ℕ) (at : Entries) (name : HeapName) (e : ℕ) → heap_entry file name ≡ Some e
    → patches_of file at name ≡ patches_at file e (heap_jump (entry_of at name) e)
entry_patches file at name e there = ap (heap_patch file (entry_of at name)) there

pub all_of_names : (file : List ℕ) (at : Entries) (names : List HeapName)
    → All (IsEntry file at names) (flat_map (patches_of file at) names)
all_of_names file at [] = All-nil (IsEntry file at [])
all_of_names file at (name ∷ names) =
    All-append (IsEntry file at (name ∷ names)) (patches_of file at name) (flat_map (patches_of file at) names)
    (by_entry (heap_entry file name) refl)
    (All-weaker (IsEntry file at names) (IsEntry file at (name ∷ names)) later (flat_map (patches_of file at) names)
    (all_of_names file at names))
  where
    by_entry : (o : Option ℕ) → heap_entry file name ≡ o
        → All (IsEntry file at (name ∷ names)) (heap_patch file (entry_of at name) o)
    by_entry None q = All-nil (IsEntry file at (name ∷ names))
    by_entry (Some e) q =
        All-weaker (IsWordAt file e (heap_jump (entry_of at name) e)) (IsEntry file at (name ∷ names))
        (λ p word. (zero, name, e, refl, q, word))
        (patches_at file e (heap_jump (entry_of at name) e)) (each_at file e (heap_jump (entry_of at name) e))

    later : (p : Patch) → IsEntry file at names p → IsEntry file at (name ∷ names) p
    later p (k, other, e, is, there, word) = (suc k, other, e, is, there, word)

-- there are two words at an entry
pub two_words : (to e i w : ℕ) → slice_get (heap_jump to e) i ≡ Some w → i < 2
two_words to e i w there = slice_get_within (heap_jump to e) i w there

-- each word at an entry has its patch
among_names : (file : List ℕ) (at : Entries) (names : List HeapName) (k : ℕ) (name : HeapName) (e i w place : ℕ)
    → slice_get names k ≡ Some name → heap_entry file name ≡ Some e
    → slice_get (heap_jump (entry_of at name) e) i ≡ Some w → code_place file (e + 4 * i) ≡ Some place
    → IsAmong (record { offset = place; word = w }) (flat_map (patches_of file at) names)
among_names file at [] k name e i w place is there word code = absurd (cc)
among_names file at (x ∷ names) zero name e i w place is there word code =
    let same : x ≡ name = cc in
    among_front (record { offset = place; word = w }) (patches_of file at x) (flat_map (patches_of file at) names)
    (subst (λ n. IsAmong (record { offset = place; word = w }) (patches_of file at n)) (sym same)
    (subst (IsAmong (record { offset = place; word = w })) (sym (entry_patches file at name e there))
    (among_at file e (heap_jump (entry_of at name) e) i w place word code)))
among_names file at (x ∷ names) (suc k) name e i w place is there word code =
    among_behind (record { offset = place; word = w }) (patches_of file at x) (flat_map (patches_of file at) names)
    (among_names file at names k name e i w place is there word code)

pub entry_among : (file : List ℕ) (at : Entries) (name : HeapName) (e i w place : ℕ) → heap_entry file name ≡ Some e
    → slice_get (heap_jump (entry_of at name) e) i ≡ Some w → code_place file (e + 4 * i) ≡ Some place
    → IsAmong (record { offset = place; word = w }) (heap_patches file at)
entry_among file at name e i w place = among_names file at heap_names (place_of name) name e i w place (in_place name)

-- no name stands twice among the names
pub names_once : AllPairs (λ n m. n ≢ m) heap_names
names_once = λ i j d l low same.
    let first : slice_get heap_names i ≡ Some (get_or heap_names i d) =
    slice_get-get_or heap_names i d (omega (arith, l, low)) in
    let second : slice_get heap_names j ≡ Some (get_or heap_names j d) = slice_get-get_or heap_names j d low in
    let here : place_of (get_or heap_names i d) ≡ i = place_is i (get_or heap_names i d) first in
    let there : place_of (get_or heap_names j d) ≡ j = place_is j (get_or heap_names j d) second in
    let one : i ≡ j = sym here ∙ (ap place_of same ∙ there) in
    omega (arith, one, l)
  where
    place_is : (i : ℕ) (name : HeapName) → slice_get heap_names i ≡ Some name → place_of name ≡ i
    place_is zero name e = let same : Malloc ≡ name = cc in ap place_of (sym same)
    place_is (suc zero) name e = let same : Calloc ≡ name = cc in ap place_of (sym same)
    place_is (suc (suc zero)) name e = let same : Realloc ≡ name = cc in ap place_of (sym same)
    place_is (suc (suc (suc zero))) name e = let same : Free ≡ name = cc in ap place_of (sym same)
    place_is (suc (suc (suc (suc zero)))) name e = let same : MallocR ≡ name = cc in ap place_of (sym same)
    place_is (suc (suc (suc (suc (suc zero))))) name e = let same : CallocR ≡ name = cc in ap place_of (sym same)
    place_is (suc (suc (suc (suc (suc (suc zero)))))) name e =
        let same : ReallocR ≡ name = cc in ap place_of (sym same)
    place_is (suc (suc (suc (suc (suc (suc (suc zero))))))) name e =
        let same : FreeR ≡ name = cc in ap place_of (sym same)
    place_is (suc (suc (suc (suc (suc (suc (suc (suc i)))))))) name e = absurd (cc)
