-- Laws of the plain parts of an image.
use Rattle.std.proofs.Common.{◌≡◌, ℕ, zero, suc, ◌+◌, ◌-◌, ◌<◌, ◌≤◌, Bool, true, false, cond, List, [], ◌∷◌, ◌++◌}
use Rattle.std.proofs.Common.{length, take, nat_le, nat_lt, slice_index_or, refl, ap, ap₂, sym, ◌∙◌, subst, arith}
use Rattle.std.specs.Prelude.{◌&&◌, ◌||◌, not, min, max}
use Rattle.std.specs.List.{list_any}
use Rattle.std.proofs.lemmas.Bool.{ltb-true, ltb-false, leb-true, leb-false, le-leb, lt-ltb, lt-leb, le-ltb, both_ways}
use Rattle.std.proofs.lemmas.List.Folds.{list_any-append, list_any_more}
use Rattle.elf_spec.specs.declared.Segment.{Segment}
use Rattle.elf_spec.specs.declared.Section.{Section}
use Rattle.elf_spec.specs.Code.{is_executable, holds_address}
use Rattle.elf_spec.specs.Fields.{is_set}
use Rattle.elf_spec.specs.Memory.{is_loaded}
use Rattle.elf_spec.specs.Records.{segments_of, sections_of}
use Rattle.exec_image.specs.declared.execs.Exec.{Exec}
use Rattle.exec_image.specs.Images.{execs_from, execs_of}
use Rattle.sym_spec.specs.Plain.{is_stack, is_in, is_header_byte, is_code_byte, is_plain, is_plain_store}
use Rattle.sym_memory.specs.declared.parts.PlainPart.{PlainPart}
use Rattle.sym_memory.specs.declared.parts.Access.{Access}
use Rattle.sym_memory.specs.declared.parts.Access.TheVariants.{Load, Store}
use Rattle.sym_memory.specs.Parts.{allows, has_byte, gives, allowed, is_outside}
use Rattle.sym_memory.specs.Starting.{segment_part, stack_part, header_end, is_in_exec}

-- tests of numbers
pub same_lt : (a b c d : ℕ) → (a < b → c < d) → (c < d → a < b) → nat_lt a b ≡ nat_lt c d
same_lt a b c d f g = by_tests (nat_lt a b) refl (nat_lt c d) refl
  where
    by_tests : (t : Bool) → nat_lt a b ≡ t → (u : Bool) → nat_lt c d ≡ u → t ≡ u
    by_tests true p true q = refl
    by_tests false p false q = refl
    by_tests true p false q = absurd (let h = f (ltb-true a b p) in let k = ltb-false c d q in omega (arith, h, k))
    by_tests false p true q = absurd (let h = g (ltb-true c d q) in let k = ltb-false a b p in omega (arith, h, k))

le_not : (x a : ℕ) → nat_le x a ≡ not (nat_lt a x)
le_not x a = by_tests (nat_le x a) refl (nat_lt a x) refl
  where
    by_tests : (t : Bool) → nat_le x a ≡ t → (u : Bool) → nat_lt a x ≡ u → t ≡ not u
    by_tests true p false q = refl
    by_tests false p true q = refl
    by_tests true p true q = absurd (let h = leb-true x a p in let k = ltb-true a x q in omega (arith, h, k))
    by_tests false p false q = absurd (let h = leb-false x a p in let k = ltb-false a x q in omega (arith, h, k))

lt_min : (a x y : ℕ) → nat_lt a (min x y) ≡ (nat_lt a x && nat_lt a y)
lt_min a x y = by_tests (nat_lt a x) refl (nat_lt a y) refl
  where
    by_tests : (t : Bool) → nat_lt a x ≡ t → (u : Bool) → nat_lt a y ≡ u → nat_lt a (min x y) ≡ (t && u)
    by_tests true p true q =
        let h = ltb-true a x p in let k = ltb-true a y q in lt-ltb a (min x y) (grind (arith, h, k))
    by_tests true p false q = let k = ltb-false a y q in le-ltb a (min x y) (grind (arith, k))
    by_tests false p u q = let h = ltb-false a x p in le-ltb a (min x y) (grind (arith, h))

max_le : (x y a : ℕ) → nat_le (max x y) a ≡ (nat_le x a && nat_le y a)
max_le x y a = by_tests (nat_le x a) refl (nat_le y a) refl
  where
    by_tests : (t : Bool) → nat_le x a ≡ t → (u : Bool) → nat_le y a ≡ u → nat_le (max x y) a ≡ (t && u)
    by_tests true p true q =
        let h = leb-true x a p in let k = leb-true y a q in le-leb (max x y) a (grind (arith, h, k))
    by_tests true p false q = let k = leb-false y a q in lt-leb (max x y) a (grind (arith, k))
    by_tests false p u q = let h = leb-false x a p in lt-leb (max x y) a (grind (arith, h))

or_false : (t : Bool) → (t || false) ≡ t
or_false true = refl
or_false false = refl

-- one more part
pub pushed_gives : (access : Access) (ps : List PlainPart) (p : PlainPart) (a : ℕ)
    → allowed access (ps ++ p ∷ []) a ≡ (allowed access ps a || gives access a p)
pushed_gives access ps p a =
    list_any-append (gives access a) ps (p ∷ []) ∙ ap (λ x. allowed access ps a || x) (or_false (gives access a p))

pub empty_gives : (access : Access) (ps : List PlainPart) (p : PlainPart) (a : ℕ) → p.end ≤ p.start
    → allowed access ps a ≡ (allowed access ps a || gives access a p)
empty_gives access ps p a none =
    sym (ap (λ x. allowed access ps a || x) (by_test (allows access p) (nat_le p.start a) refl)
    ∙ or_false (allowed access ps a))
  where
    by_test : (t u : Bool) → nat_le p.start a ≡ u → (t && (u && nat_lt a p.end)) ≡ false
    by_test false u e = refl
    by_test true false e = refl
    by_test true true e = let h = leb-true p.start a e in le-ltb a p.end (omega (arith, h, none))

-- a part without the addresses from a start to before an end
cut_numbers : (a start end x y : ℕ)
    → ((nat_le x a && nat_lt a (min y start)) || (nat_le (max x end) a && nat_lt a y))
    ≡ ((nat_le x a && nat_lt a y) && is_outside start end a)
cut_numbers a start end x y =
    rw (lt_min a y start, max_le x end a, le_not start a, le_not end a)
    (by_tests (nat_le x a) (nat_lt a y) (nat_lt a start) (nat_lt a end))
  where
    by_tests : (p q s e : Bool) → ((p && (q && s)) || ((p && not e) && q)) ≡ ((p && q) && not (not s && e))
    by_tests false q s e = refl
    by_tests true false true true = refl
    by_tests true false true false = refl
    by_tests true false false true = refl
    by_tests true false false false = refl
    by_tests true true true e = refl
    by_tests true true false true = refl
    by_tests true true false false = refl

pub pieces : (access : Access) (a start end low high : ℕ) (p : PlainPart) → low ≡ min p.end start
    → high ≡ max p.start end
    → (gives access a (record { start = p.start; end = low; writable = p.writable })
    || gives access a (record { start = high; end = p.end; writable = p.writable }))
    ≡ (gives access a p && is_outside start end a)
pieces Load a start end low high p l h = rw (l, h) (cut_numbers a start end p.start p.end)
pieces Store a start end low high p l h = rw (l, h) (by_test p.writable)
  where
    by_test : (t : Bool)
        → ((t && (nat_le p.start a && nat_lt a (min p.end start))) || (t
        && (nat_le (max p.start end) a && nat_lt a p.end)))
        ≡ ((t && (nat_le p.start a && nat_lt a p.end)) && is_outside start end a)
    by_test false = refl
    by_test true = cut_numbers a start end p.start p.end

-- steps of loops over a list, in tests of its elements so far
or_and : (t g h o : Bool) (both : (g || h) ≡ (t && o)) (b : Bool) → (((b && o) || g) || h) ≡ ((b || t) && o)
or_and t g h true both true = refl
or_and t g h false both true = both ∙ and_false t
  where
    and_false : (t : Bool) → (t && false) ≡ false
    and_false true = refl
    and_false false = refl
or_and t g h o both false = both

pub cut_more : {X : Type 0} (f : X → Bool) (xs : List X) (i : ℕ) (d : X) (o g h old mid new : Bool) → i < length xs
    → old ≡ (list_any f (take i xs) && o) → mid ≡ (old || g) → new ≡ (mid || h)
    → (g || h) ≡ (f (slice_index_or xs i d) && o) → new ≡ (list_any f (take (i + 1) xs) && o)
cut_more f xs i d o g h old mid new less before first second both =
    second ∙ ap (λ x. x || h) (first ∙ ap (λ x. x || g) before)
    ∙ or_and (f (slice_index_or xs i d)) g h o both (list_any f (take i xs))
    ∙ ap (λ x. x && o) (sym (list_any_more f xs i d less))

pub any_more : {X : Type 0} (f : X → Bool) (xs : List X) (i : ℕ) (d : X) (t old new : Bool) → i < length xs
    → old ≡ list_any f (take i xs) → new ≡ (old || t) → f (slice_index_or xs i d) ≡ t
    → new ≡ list_any f (take (i + 1) xs)
any_more f xs i d t old new less before step is =
    step ∙ ap₂ (λ x y. x || y) before (sym is) ∙ sym (list_any_more f xs i d less)

pub any_same_more : {X : Type 0} (f : X → Bool) (xs : List X) (i : ℕ) (d : X) (old : Bool) → i < length xs
    → old ≡ list_any f (take i xs) → f (slice_index_or xs i d) ≡ false → old ≡ list_any f (take (i + 1) xs)
any_same_more f xs i d old less before is =
    sym (or_false old) ∙ ap₂ (λ x y. x || y) before (sym is) ∙ sym (list_any_more f xs i d less)

and_not : (b x t : Bool) → ((b && not x) && not t) ≡ (b && not (x || t))
and_not false x t = refl
and_not true true t = refl
and_not true false t = refl

pub not_more : {X : Type 0} (f : X → Bool) (xs : List X) (i : ℕ) (d : X) (b old new o : Bool) → i < length xs
    → old ≡ (b && not (list_any f (take i xs))) → new ≡ (old && o) → o ≡ not (f (slice_index_or xs i d))
    → new ≡ (b && not (list_any f (take (i + 1) xs)))
not_more f xs i d b old new o less before step is =
    step ∙ ap₂ (λ x y. x && y) before is ∙ and_not b (list_any f (take i xs)) (f (slice_index_or xs i d))
    ∙ ap (λ x. b && not x) (sym (list_any_more f xs i d less))

pub not_same_more : {X : Type 0} (f : X → Bool) (xs : List X) (i : ℕ) (d : X) (b old : Bool) → i < length xs
    → old ≡ (b && not (list_any f (take i xs))) → f (slice_index_or xs i d) ≡ false
    → old ≡ (b && not (list_any f (take (i + 1) xs)))
not_same_more f xs i d b old less before is =
    before ∙ ap (λ x. b && not x) (sym (or_false (list_any f (take i xs)))
    ∙ ap (λ y. list_any f (take i xs) || y) (sym is)
    ∙ sym (list_any_more f xs i d less))

-- the bytes of the file header in a segment
header_numbers : (a v m f o : ℕ)
    → ((nat_le v a && nat_lt a (v + m)) && (nat_lt a (v + f) && nat_lt (o + (a - v)) 52))
    ≡ (nat_le v a && nat_lt a (v + min (min m f) (52 - o)))
header_numbers a v m f o = by_test (nat_le v a) refl
  where
    tests : (p q r : Bool) → (p && (q && r)) ≡ ((p && q) && r)
    tests false q r = refl
    tests true q r = refl

    by_test : (t : Bool) → nat_le v a ≡ t
        → ((t && nat_lt a (v + m)) && (nat_lt a (v + f) && nat_lt (o + (a - v)) 52))
        ≡ (t && nat_lt a (v + min (min m f) (52 - o)))
    by_test false e = refl
    by_test true e =
        let low = leb-true v a e in
        let behind : (n : ℕ) → nat_lt a (v + n) ≡ nat_lt (a - v) n =
        λ n. same_lt a (v + n) (a - v) n (λ h. omega (arith, low, h)) (λ h. omega (arith, low, h)) in
        let place : nat_lt (o + (a - v)) 52 ≡ nat_lt (a - v) (52 - o) =
        same_lt (o + (a - v)) 52 (a - v) (52 - o) (λ h. omega (arith, low, h)) (λ h. omega (arith, low, h)) in
        ap₂ (λ x y. x && y) (behind m) (ap₂ (λ x y. x && y) (behind f) place)
        ∙ tests (nat_lt (a - v) m) (nat_lt (a - v) f) (nat_lt (a - v) (52 - o))
        ∙ ap (λ x. x && nat_lt (a - v) (52 - o)) (sym (lt_min (a - v) m f))
        ∙ sym (lt_min (a - v) (min m f) (52 - o))
        ∙ sym (behind (min (min m f) (52 - o)))

pub header_is : (a : ℕ) (s : Segment) → is_header_byte a s ≡ (nat_le s.vaddr a && nat_lt a (header_end s))
header_is a s = by_test (is_loaded s)
  where
    none : (t : Bool) → nat_le s.vaddr a ≡ t → false ≡ (t && nat_lt a s.vaddr)
    none false e = refl
    none true e = let low = leb-true s.vaddr a e in sym (le-ltb a s.vaddr low)

    by_test : (t : Bool)
        → ((t && (nat_le s.vaddr a && nat_lt a (s.vaddr + s.mem_size)))
        && (nat_lt a (s.vaddr + s.file_size) && nat_lt (s.offset + (a - s.vaddr)) 52))
        ≡ (nat_le s.vaddr a
        && nat_lt a (cond t (s.vaddr + min (min s.mem_size s.file_size) (52 - s.offset)) s.vaddr))
    by_test false = none (nat_le s.vaddr a) refl
    by_test true = header_numbers a s.vaddr s.mem_size s.file_size s.offset

-- the executable sections by their list
pub execs_any : (a i : ℕ) (ss : List Section)
    → list_any (is_in_exec a) (execs_from i ss) ≡ list_any (λ s. is_executable s && holds_address a s) ss
execs_any a i [] = refl
execs_any a i (s ∷ ss) = by_test (execs_any a (i + 1) ss) (is_executable s)
  where
    by_test : list_any (is_in_exec a) (execs_from (i + 1) ss) ≡ list_any (λ s. is_executable s && holds_address a s) ss
        → (t : Bool)
        → list_any (is_in_exec a) (cond t (record { index = i; addr = s.addr; size = s.size } ∷ execs_from (i + 1) ss)
        (execs_from (i + 1) ss))
        ≡ ((t && holds_address a s) || list_any (λ s. is_executable s && holds_address a s) ss)
    by_test ih true = ap (λ x. holds_address a s || x) ih
    by_test ih false = ih

any_pointwise : {X : Type 0} (f g : X → Bool) (xs : List X) → ((x : X) → f x ≡ g x) → list_any f xs ≡ list_any g xs
any_pointwise f g [] h = refl
any_pointwise f g (x ∷ xs) h = ap₂ (λ p q. p || q) (h x) (any_pointwise f g xs h)

-- the segments' parts, the holes in them, and the stack
code_is : (file : List ℕ) (a : ℕ) → list_any (is_in_exec a) (execs_of file) ≡ is_code_byte file a
unfolding execs_of
code_is file a = execs_any a 0 (sections_of file)

pub plain_is : (file : List ℕ) (a : ℕ) (segments header code all : Bool)
    → segments ≡ list_any (λ s. is_loaded s && gives Load a (segment_part s)) (segments_of file)
    → header ≡ (segments && not (list_any (is_header_byte a) (segments_of file)))
    → code ≡ (header && not (list_any (is_in_exec a) (execs_of file)))
    → all ≡ (code || gives Load a stack_part) → all ≡ is_plain file a
unfolding is_plain
plain_is file a segments header code all e f g h =
    h ∙ ap (λ x. x || is_stack a) (g ∙ ap₂ (λ x y. x && not y) (f
    ∙ ap (λ x. x && not (list_any (is_header_byte a) (segments_of file))) e) (code_is file a))
    ∙ by_tests (list_any (is_in a) (segments_of file)) (list_any (is_header_byte a) (segments_of file))
    (is_code_byte file a) (is_stack a)
  where
    by_tests : (x h c s : Bool) → (((x && not h) && not c) || s) ≡ (s || (x && (not c && not h)))
    by_tests x h c true = or_true ((x && not h) && not c)
      where
        or_true : (t : Bool) → (t || true) ≡ true
        or_true true = refl
        or_true false = refl
    by_tests false h c false = refl
    by_tests true true true false = refl
    by_tests true true false false = refl
    by_tests true false true false = refl
    by_tests true false false false = refl

weaker : {X : Type 0} (f g : X → Bool) (xs : List X) → ((x : X) → (f x && g x) ≡ f x)
    → (list_any f xs && list_any g xs) ≡ list_any f xs
weaker f g [] h = refl
weaker f g (x ∷ xs) h = by_tests (f x) (g x) (list_any f xs) (list_any g xs) (h x) (weaker f g xs h)
  where
    by_tests : (p q r s : Bool) → (p && q) ≡ p → (r && s) ≡ r → ((p || r) && (q || s)) ≡ (p || r)
    by_tests true true r s e f = refl
    by_tests true false r s e f = absurd (cc)
    by_tests false true true s e f = refl
    by_tests false true false s e f = refl
    by_tests false false r s e f = f

pub storable_is : (file : List ℕ) (a : ℕ) (segments header code all : Bool)
    → segments ≡ list_any (λ s. is_loaded s && gives Store a (segment_part s)) (segments_of file)
    → header ≡ (segments && not (list_any (is_header_byte a) (segments_of file)))
    → code ≡ (header && not (list_any (is_in_exec a) (execs_of file)))
    → all ≡ (code || gives Store a stack_part) → all ≡ is_plain_store file a
unfolding is_plain_store is_plain
storable_is file a segments header code all e f g h =
    h ∙ ap (λ x. x || is_stack a) (g ∙ ap₂ (λ x y. x && not y) (f
    ∙ ap (λ x. x && not (list_any (is_header_byte a) (segments_of file))) (e ∙ turned)) (code_is file a))
    ∙ by_tests (list_any (λ s. is_in a s && is_set 2 s.flags) (segments_of file))
    (list_any (is_in a) (segments_of file))
    (list_any (is_header_byte a) (segments_of file)) (is_code_byte file a) (is_stack a)
    (weaker (λ s. is_in a s && is_set 2 s.flags) (is_in a) (segments_of file)
    (λ s. twice (is_in a s) (is_set 2 s.flags)))
  where
    twice : (p q : Bool) → ((p && q) && p) ≡ (p && q)
    twice false q = refl
    twice true true = refl
    twice true false = refl

    swap : (p q r : Bool) → (p && (q && r)) ≡ ((p && r) && q)
    swap false q r = refl
    swap true true true = refl
    swap true true false = refl
    swap true false true = refl
    swap true false false = refl

    turned : list_any (λ s. is_loaded s && gives Store a (segment_part s)) (segments_of file)
        ≡ list_any (λ s. is_in a s && is_set 2 s.flags) (segments_of file)
    turned = any_pointwise (λ s. is_loaded s && gives Store a (segment_part s)) (λ s. is_in a s && is_set 2 s.flags)
        (segments_of file) (λ s. swap (is_loaded s) (is_set 2 s.flags) (has_byte a (segment_part s)))

    by_tests : (w x h c s : Bool) → (w && x) ≡ w
        → (((w && not h) && not c) || s) ≡ ((s || (x && (not c && not h))) && (s || w))
    by_tests w x h c true e = or_true ((w && not h) && not c)
      where
        or_true : (t : Bool) → (t || true) ≡ true
        or_true true = refl
        or_true false = refl
    by_tests true false h c false e = absurd (cc)
    by_tests true true true true false e = refl
    by_tests true true true false false e = refl
    by_tests true true false true false e = refl
    by_tests true true false false false e = refl
    by_tests false x h c false e = sym (and_false (x && (not c && not h)))
      where
        and_false : (t : Bool) → (t && false) ≡ false
        and_false true = refl
        and_false false = refl

-- the same of what code holds
pub plain_of : (file : List ℕ) (a : ℕ) (segs : List Segment) (execs : List Exec) (p : PlainPart)
    (segments header code all : Bool)
    → segs ≡ segments_of file → execs ≡ execs_of file → p ≡ stack_part
    → segments ≡ list_any (λ s. is_loaded s && gives Load a (segment_part s)) segs
    → header ≡ (segments && not (list_any (is_header_byte a) segs))
    → code ≡ (header && not (list_any (is_in_exec a) execs))
    → all ≡ (code || gives Load a p) → all ≡ is_plain file a
plain_of file a segs execs p segments header code all u v w e f g h =
    plain_is file a segments header code all
    (e ∙ ap (list_any (λ s. is_loaded s && gives Load a (segment_part s))) u)
    (f ∙ ap (λ xs. segments && not (list_any (is_header_byte a) xs)) u)
    (g ∙ ap (λ xs. header && not (list_any (is_in_exec a) xs)) v) (h ∙ ap (λ q. code || gives Load a q) w)

pub storable_of : (file : List ℕ) (a : ℕ) (segs : List Segment) (execs : List Exec) (p : PlainPart)
    (segments header code all : Bool)
    → segs ≡ segments_of file → execs ≡ execs_of file → p ≡ stack_part
    → segments ≡ list_any (λ s. is_loaded s && gives Store a (segment_part s)) segs
    → header ≡ (segments && not (list_any (is_header_byte a) segs))
    → code ≡ (header && not (list_any (is_in_exec a) execs))
    → all ≡ (code || gives Store a p) → all ≡ is_plain_store file a
storable_of file a segs execs p segments header code all u v w e f g h =
    storable_is file a segments header code all
    (e ∙ ap (list_any (λ s. is_loaded s && gives Store a (segment_part s))) u)
    (f ∙ ap (λ xs. segments && not (list_any (is_header_byte a) xs)) u)
    (g ∙ ap (λ xs. header && not (list_any (is_in_exec a) xs)) v) (h ∙ ap (λ q. code || gives Store a q) w)
