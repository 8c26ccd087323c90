-- The symbols of a heap function, found among all symbols.
use Rattle.std.proofs.Common.{◌≡◌, ℕ, ◌==◌, ◌&&◌, not, Bool, true, false, List, [], ◌∷◌, nat_eq, nat_le, refl, sym, ap}
use Rattle.std.proofs.Common.{◌∙◌, arith, Option, Some, None, option_map}
use Rattle.std.specs.List.{Any, filter, find, list_any}
use Rattle.std.proofs.lemmas.Bool.Decides.{nat_tests}
use Rattle.std.proofs.lemmas.List.Folds.{Any-from_list_any, list_any-from_Any}
use Rattle.elf_spec.specs.declared.HeapName.{HeapName}
use Rattle.elf_spec.specs.declared.Symbol.{Symbol}
use Rattle.elf_spec.specs.Heap.{heap_entry, is_heap_symbol}
use Rattle.elf_spec.specs.Tables.{symbols_of}
use Rattle.exec_image.specs.HeapChecks.{has_two_values, heap_symbols}

pub any_of_filter : {X : Type 0} (p q : X → Bool) (xs : List X)
    → list_any q (filter p xs) ≡ list_any (λ x. p x && q x) xs
any_of_filter p q [] = refl
any_of_filter p q (x ∷ xs) = decide (p x) refl (any_of_filter p q xs)
  where
    decide : (b : Bool) → p x ≡ b → list_any q (filter p xs) ≡ list_any (λ x. p x && q x) xs
        → list_any q (filter p (x ∷ xs)) ≡ list_any (λ x. p x && q x) (x ∷ xs)
    decide true e ih = rw (e, ih) refl
    decide false e ih = rw e ih

-- what is found is the first of those that pass
first_of_filter : {X : Type 0} (p : X → Bool) (xs : List X) (x : X) → find p xs ≡ Some x
    → (rest : List X) × (filter p xs ≡ x ∷ rest)
first_of_filter p [] x h = absurd (cc)
first_of_filter {X = X} p (y ∷ ys) x h = decide (p y) refl (first_of_filter p ys x)
  where
    decide : (b : Bool) → p y ≡ b → (find p ys ≡ Some x → (rest : List X) × (filter p ys ≡ x ∷ rest))
        → (rest : List X) × (filter p (y ∷ ys) ≡ x ∷ rest)
    decide true e ih =
        let q : Some y ≡ Some x = rw e at h in
        let r : y ≡ x = cc in
        (filter p ys, rw e (ap (λ z. z ∷ filter p ys) r))
    decide false e ih = let (rest, f) = ih (rw e at h) in (rest, rw e f)

none_of_filter : {X : Type 0} (p : X → Bool) (xs : List X) → find p xs ≡ None → filter p xs ≡ []
none_of_filter p [] h = refl
none_of_filter p (y ∷ ys) h = decide (p y) refl (none_of_filter p ys)
  where
    decide : (b : Bool) → p y ≡ b → (find p ys ≡ None → filter p ys ≡ []) → filter p (y ∷ ys) ≡ []
    decide true e ih = absurd (let q : Some y ≡ None = rw e at h in cc)
    decide false e ih = rw e (ih (rw e at h))

differ : (x y a : ℕ) → not (nat_eq x y) ≡ true → not (nat_eq x a) ≡ false → not (nat_eq y a) ≡ true
differ x y a h k = grind (arith, nat_tests)

pick : (y : Symbol) (all : List Symbol) (s t : Symbol) → Any (λ x. x ≡ s) all → Any (λ x. x ≡ t) all
    → not (s.value == t.value) ≡ true
    → (b : Bool) → not (s.value == y.value) ≡ b → list_any (λ x. not (x.value == y.value)) all ≡ true
pick y all s t (k, x, l, g, m) i u true e =
    list_any-from_Any (λ x. not (x.value == y.value)) all (k, x, l, g, rw m e)
pick y all s t i (k, x, l, g, m) u false e =
    list_any-from_Any (λ x. not (x.value == y.value)) all (k, x, l, g, rw m (differ s.value t.value y.value u e))

-- two of some values differ exactly where one differs from the first
two_differ : (y : Symbol) (ys : List Symbol)
    → list_any (λ s. not (s.value == y.value)) (y ∷ ys)
    ≡ list_any (λ s. list_any (λ t. not (s.value == t.value)) (y ∷ ys)) (y ∷ ys)
two_differ y ys = decide (list_any one all) (list_any two all) refl refl
  where
    all : List Symbol
    all = y ∷ ys

    one : Symbol → Bool
    one = λ s. not (s.value == y.value)

    two : Symbol → Bool
    two = λ s. list_any (λ t. not (s.value == t.value)) all

    up : list_any one all ≡ true → list_any two all ≡ true
    up h =
        let (k, s, l, g, m) = Any-from_list_any one all h in
        list_any-from_Any two all (k, s, l, g, rw m refl)

    down : list_any two all ≡ true → list_any one all ≡ true
    down h =
        let (k, s, l, g, m) = Any-from_list_any two all h in
        let (j, t, n, f, u) = Any-from_list_any (λ t. not (s.value == t.value)) all m in
        pick y all s t (k, s, l, g, refl) (j, t, n, f, refl) u (one s) refl

    decide : (b c : Bool) → list_any one all ≡ b → list_any two all ≡ c → list_any one all ≡ list_any two all
    decide true true e f = e ∙ sym f
    decide false false e f = e ∙ sym f
    decide true false e f = absurd (let q : true ≡ false = sym (up e) ∙ f in cc)
    decide false true e f = absurd (let q : true ≡ false = sym (down f) ∙ e in cc)

value_of : (o : Option Symbol) (a : ℕ) → option_map (λ s. s.value) o ≡ Some a
    → (s : Symbol) × (o ≡ Some s) × (s.value ≡ a)
value_of (Some s) a h = let e : s.value ≡ a = cc in (s, refl, e)
value_of None a h = absurd (cc)

no_value : (o : Option Symbol) → option_map (λ s. s.value) o ≡ None → o ≡ None
no_value (Some s) h = absurd (cc)
no_value None h = refl

pub two_values : (file : List ℕ) (name : HeapName) (a : ℕ) → Some a ≡ heap_entry file name
    → list_any (λ s. is_heap_symbol file name s && not (s.value == a)) (symbols_of file) ≡ has_two_values file name
two_values file name a h =
    let (s, f, e) = value_of (find (is_heap_symbol file name) (symbols_of file)) a (sym h) in
    let (rest, g) = first_of_filter (is_heap_symbol file name) (symbols_of file) s f in
    sym (any_of_filter (is_heap_symbol file name) (λ s. not (s.value == a)) (symbols_of file))
    ∙ rw (← e) (rw g (two_differ s rest))

pub no_values : (file : List ℕ) (name : HeapName) → None ≡ heap_entry file name → false ≡ has_two_values file name
no_values file name h =
    let f : filter (is_heap_symbol file name) (symbols_of file) ≡ [] =
    none_of_filter (is_heap_symbol file name) (symbols_of file)
    (no_value (find (is_heap_symbol file name) (symbols_of file)) (sym h)) in
    rw f refl

pub small_symbols : (file : List ℕ) (name : HeapName)
    → list_any (λ s. nat_le 1 s.size && nat_le s.size 7) (heap_symbols file name)
    ≡ list_any (λ s. is_heap_symbol file name s && (nat_le 1 s.size && nat_le s.size 7)) (symbols_of file)
small_symbols file name = any_of_filter (is_heap_symbol file name) (λ s. nat_le 1 s.size && nat_le s.size 7)
    (symbols_of file)
