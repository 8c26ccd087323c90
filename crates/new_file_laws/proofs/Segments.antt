-- The loaded segments of a readable file: no two have an address or a byte of the file in common, so
-- an address says which segment has it, and so does an offset in the file.
use Rattle.std.proofs.Common.{◌≡◌, ◌⊎◌, ℕ, ◌+◌, ◌-◌, ◌<◌, ◌≤◌, List, [], ◌∷◌, ◌++◌, Bool, true, false, ◌&&◌, ◌||◌}
use Rattle.std.proofs.Common.{if◌then◌else◌, length, get_or, map, refl, ap, sym, ◌∙◌, subst, arith, inl, inr}
use Rattle.std.specs.Prelude.{Option, Some, None, option_map, nat_le, nat_lt, slice_get, filter, find, All, AllPairs}
use Rattle.std.specs.Prelude.{Any, drop, replicate, take}
use Rattle.std.specs.List.{list_any, position_or_len}
use Rattle.std.proofs.lemmas.Bool.Decides.{nat_tests}
use Rattle.std.proofs.lemmas.List.{length-append, length-drop, length-replicate, length-take-le}
use Rattle.std.proofs.lemmas.List.Elements.{All-head, All-tail}
use Rattle.std.proofs.lemmas.List.Folds.{find_at}
use Rattle.std.proofs.lemmas.Map.Keys.{any_passes_from_place}
use Rattle.std.proofs.lemmas.Option.{slice_get_within, get_or_from_slice_get, slice_get-get_or}
use Rattle.elf_spec.specs.declared.Segment.{Segment}
use Rattle.elf_spec.specs.Memory.{image_end, is_loaded}
use Rattle.elf_spec.specs.Records.{segments_of}
use Rattle.elf_read.specs.Checks.{is_shared, meets}
use Rattle.elf_read.specs.Readable.{IsInside, IsLoadedInside, ReadableFacts}
use Rattle.machine_spec.specs.Memory.{Range, covers, range_at, range_of}
use Rattle.sym_spec.specs.Plain.{is_in}
use Rattle.elf_write.specs.Places.{InFile, is_between, place_at, place_in}
use Rattle.new_file_laws.proofs.Finding.{found_passes, found_some}
use Rattle.exec_image.specs.Accepted.{AcceptedFacts, EndsBelow}

-- an element of a list
abbrev pub IsOneOf : {X : Type 0} → X → List X → Type 0
IsOneOf {X} x xs = (k : ℕ) × (slice_get xs k ≡ Some x)

pub all_of : {X : Type 0} (P : X → Type 0) (xs : List X) (x : X) → All P xs → IsOneOf x xs → P x
all_of P xs x h (k, e) = subst P (get_or_from_slice_get xs k x x e) (h k x (slice_get_within xs k x e))

-- what some element has, an element has
pub some_one : {X : Type 0} (P : X → Type 0) (xs : List X) → Any P xs → (x : X) × IsOneOf x xs × P x
some_one P xs (k, x, l, e, p) = (x, (k, slice_get-get_or xs k x l ∙ ap Some e), p)

pub found_one : {X : Type 0} (p : X → Bool) (xs : List X) (x : X) → find p xs ≡ Some x → IsOneOf x xs
found_one p xs x e = (position_or_len p xs, sym (find_at p xs) ∙ e)

pub any_of : {X : Type 0} (p : X → Bool) (xs : List X) (x : X) → IsOneOf x xs → p x ≡ true → list_any p xs ≡ true
any_of p xs x (k, there) passes = any_passes_from_place p xs k x there passes

-- two elements are one, or stand in the relation of all pairs one way round
pub one_or_two : {X : Type 0} (R : X → X → Type 0) (xs : List X) (x y : X) → AllPairs R xs → IsOneOf x xs → IsOneOf y xs
    → (x ≡ y) ⊎ (R x y ⊎ R y x)
one_or_two {X = X} R xs x y pairs (i, e) (j, f) = by_order (nat_lt i j) (nat_lt j i) refl refl
  where
    pair : (i j : ℕ) (x y : X) → i < j → slice_get xs i ≡ Some x → slice_get xs j ≡ Some y → R x y
    pair i j x y l e f =
        subst (λ u. R u y) (get_or_from_slice_get xs i x x e)
        (subst (λ v. R (get_or xs i x) v) (get_or_from_slice_get xs j y x f)
        (pairs i j x l (slice_get_within xs j y f)))

    by_order : (s t : Bool) → nat_lt i j ≡ s → nat_lt j i ≡ t → (x ≡ y) ⊎ (R x y ⊎ R y x)
    by_order true t s' t' = inr (inl (pair i j x y (grind (arith, nat_tests)) e f))
    by_order false true s' t' = inr (inr (pair j i y x (grind (arith, nat_tests)) f e))
    by_order false false s' t' =
        let same : i ≡ j = grind (arith, nat_tests) in
        let both : Some x ≡ Some y = sym e ∙ ap (slice_get xs) same ∙ f in
        inl (cc)

-- where no pair passes a test twice, an element that passes is what is found
pub find_one : {X : Type 0} (p : X → Bool) (R : X → X → Type 0) (xs : List X) (x : X) → AllPairs R xs
    → ((y z : X) → R y z → p y ≡ true → p z ≡ true → ⊥) → IsOneOf x xs → p x ≡ true → find p xs ≡ Some x
find_one {X = X} p R xs x pairs apart one passes = is (found_some p xs (any_of p xs x one passes))
  where
    is : (y : X) × (find p xs ≡ Some y) → find p xs ≡ Some x
    is (y, found) = at (one_or_two R xs y x pairs (found_one p xs y found) one)
      where
        at : (y ≡ x) ⊎ (R y x ⊎ R x y) → find p xs ≡ Some x
        at (inl same) = found ∙ ap Some same
        at (inr (inl r)) = absurd (apart y x r (found_passes p xs y found) passes)
        at (inr (inr r)) = absurd (apart x y r passes (found_passes p xs y found))

-- the range of a segment has its size
length-range : (f : List ℕ) (h : Segment) → IsInside (length f) h → length (range_of f h).bytes ≡ h.mem_size
length-range f h inside =
    let fits : h.file_size ≤ h.mem_size = inside.fits in
    let file : h.offset + h.file_size ≤ length f = inside.file in
    let cut : length (drop h.offset f) ≡ length f - h.offset = length-drop h.offset f in
    let part : length (take h.file_size (drop h.offset f)) ≡ h.file_size =
    length-take-le h.file_size (drop h.offset f) (omega arith) in
    let fill : length (replicate {A = ℕ} (h.mem_size - h.file_size) 0) ≡ h.mem_size - h.file_size =
    length-replicate {A = ℕ} (h.mem_size - h.file_size) 0 in
    length-append (take h.file_size (drop h.offset f)) (replicate (h.mem_size - h.file_size) 0) ∙ omega arith

-- two loaded segments that do not meet have no address in common, and no byte of the file
abbrev IsApart : Segment → Segment → Type 0
IsApart s t = meets s t ≡ false

address_shared : (v m w n a : ℕ) (b c r : Bool) → (b && (nat_le v a && nat_lt a (v + m))) ≡ true
    → (c && (nat_le w a && nat_lt a (w + n))) ≡ true
    → ((b && c) && (is_shared v m w n || r)) ≡ true
address_shared v m w n a true true r e f = let g : is_shared v m w n ≡ true = grind (arith, nat_tests) in rw g refl
address_shared v m w n a true false r e f = absurd (cc)
address_shared v m w n a false c r e f = absurd (cc)

no_address : (a : ℕ) (s t : Segment) → IsApart s t → is_in a s ≡ true → is_in a t ≡ true → ⊥
no_address a s t apart e f =
    let g : true ≡ false = sym (address_shared s.vaddr s.mem_size t.vaddr t.mem_size a (is_loaded s)
    (is_loaded t) _ e f) ∙ apart in cc

offset_shared : (o f q g i : ℕ) (b c r : Bool) → b ≡ true → c ≡ true → o ≤ i → i < o + f → q ≤ i → i < q + g
    → ((b && c) && (r || is_shared o f q g)) ≡ true
offset_shared o f q g i true true true e h j k l m = refl
offset_shared o f q g i true true false e h j k l m = grind (arith, nat_tests)
offset_shared o f q g i true false r e h j k l m = absurd (cc)
offset_shared o f q g i false c r e h j k l m = absurd (cc)

no_offset : (i : ℕ) (s t : Segment) → IsApart s t → is_loaded s ≡ true → is_loaded t ≡ true
    → s.offset ≤ i → i < s.offset + s.file_size → t.offset ≤ i → i < t.offset + t.file_size → ⊥
no_offset i s t apart e f h j k l =
    let g : true ≡ false = sym (offset_shared s.offset s.file_size t.offset t.file_size i (is_loaded s)
    (is_loaded t) _ e f h j k l) ∙ apart in cc

-- the place and the range of an address, by the segment that has it
pub place_is : (hs : List Segment) (a : ℕ) → place_at hs a ≡ option_map (λ h. place_in h a) (find (is_in a) hs)
place_is [] a = refl
place_is (h ∷ hs) a = at (is_in a h) (place_is hs a)
  where
    at : (b : Bool) → place_at hs a ≡ option_map (λ h. place_in h a) (find (is_in a) hs)
        → (if b then Some (place_in h a) else place_at hs a)
        ≡ option_map (λ h. place_in h a) (if b then Some h else find (is_in a) hs)
    at true more = refl
    at false more = more

abbrev pub range_or : List ℕ → Option Segment → Option Range → Option Range
range_or file (Some h) o = Some (range_of file h)
range_or file None o = o

pub range_is : (file : List ℕ) (hs : List Segment) (rest : List Range) (a : ℕ) → All (IsLoadedInside (length file)) hs
    → range_at (map (range_of file) (filter is_loaded hs) ++ rest) a
    ≡ range_or file (find (is_in a) hs) (range_at rest a)
range_is file [] rest a w = refl
range_is file (h ∷ hs) rest a w = at (is_loaded h) refl
    (range_is file hs rest a (All-tail (IsLoadedInside (length file)) h hs w))
  where
    within : (b : Bool) → range_at (map (range_of file) (filter is_loaded hs) ++ rest) a
        ≡ range_or file (find (is_in a) hs) (range_at rest a)
        → (if b then Some (range_of file h) else range_at (map (range_of file) (filter is_loaded hs) ++ rest) a)
        ≡ range_or file (if b then Some h else find (is_in a) hs) (range_at rest a)
    within true more = refl
    within false more = more

    at : (b : Bool) → is_loaded h ≡ b → range_at (map (range_of file) (filter is_loaded hs) ++ rest) a
        ≡ range_or file (find (is_in a) hs) (range_at rest a)
        → range_at (map (range_of file) (if b then h ∷ filter is_loaded hs else filter is_loaded hs) ++ rest) a
        ≡ range_or file (if b && is_between h.vaddr h.mem_size a then Some h else find (is_in a) hs) (range_at rest a)
    at true e more =
        let long : length (range_of file h).bytes ≡ h.mem_size =
        length-range file h (All-head (IsLoadedInside (length file)) h hs w e) in
        let same : covers a (range_of file h) ≡ is_between h.vaddr h.mem_size a =
        ap (λ n. nat_le h.vaddr a && nat_lt a (h.vaddr + n)) long in
        subst (λ b. (if b then Some (range_of file h) else range_at
        (map (range_of file) (filter is_loaded hs) ++ rest) a)
        ≡ range_or file (if is_between h.vaddr h.mem_size a then Some h else find (is_in a) hs)
        (range_at rest a)) (sym same)
        (within (is_between h.vaddr h.mem_size a) more)
    at false e more = more

-- the segment that has an address is found there
pub found_there : (file : List ℕ) (a : ℕ) (g : Segment) → ReadableFacts file → IsOneOf g (segments_of file)
    → is_in a g ≡ true
    → find (is_in a) (segments_of file) ≡ Some g
found_there file a g facts one is =
    find_one (is_in a) IsApart (segments_of file) g facts.apart (λ s t apart e f. no_address a s t apart e f) one is

pub place_there : (file : List ℕ) (a : ℕ) (g : Segment) → ReadableFacts file → IsOneOf g (segments_of file)
    → is_in a g ≡ true
    → place_at (segments_of file) a ≡ Some (place_in g a)
place_there file a g facts one is =
    place_is (segments_of file) a ∙ ap (option_map (λ h. place_in h a)) (found_there file a g facts one is)

pub range_there : (file : List ℕ) (rest : List Range) (a : ℕ) (g : Segment) → ReadableFacts file
    → IsOneOf g (segments_of file) → is_in a g ≡ true
    → range_at (map (range_of file) (filter is_loaded (segments_of file)) ++ rest) a ≡ Some (range_of file g)
range_there file rest a g facts one is =
    range_is file (segments_of file) rest a facts.segments
    ∙ ap (λ o. range_or file o (range_at rest a)) (found_there file a g facts one is)

-- no segment has an address at or above the image's end
low_end : (b : Bool) (v m a end : ℕ) → (b && (nat_le v a && nat_lt a (v + m))) ≡ true → (b ≡ true → v + m ≤ end)
    → a < end
low_end true v m a end e low = let l : v + m ≤ end = low refl in let h : a < v + m =
    grind (arith, nat_tests) in omega (arith, l, h)
low_end false v m a end e low = absurd (cc)

pub below_image_end : (file : List ℕ) (a : ℕ) (g : Segment) → AcceptedFacts file → IsOneOf g (segments_of file)
    → is_in a g ≡ true → a < image_end (segments_of file)
below_image_end file a g facts one e =
    low_end (is_loaded g) g.vaddr g.mem_size a (image_end (segments_of file)) e
    (all_of (EndsBelow (image_end (segments_of file))) (segments_of file) g facts.segments_end one)

pub none_above : (file : List ℕ) (a : ℕ) → AcceptedFacts file → image_end (segments_of file) ≤ a
    → find (is_in a) (segments_of file) ≡ None
none_above file a facts high = at (find (is_in a) (segments_of file)) refl
  where
    at : (o : Option Segment) → find (is_in a) (segments_of file) ≡ o → o ≡ None
    at None e = refl
    at (Some g) e =
        absurd (let low : a < image_end (segments_of file) =
        below_image_end file a g facts (found_one (is_in a) (segments_of file) g e)
        (found_passes (is_in a) (segments_of file) g e) in omega (arith, low, high))

pub place_above : (file : List ℕ) (a : ℕ) → AcceptedFacts file → image_end (segments_of file) ≤ a
    → place_at (segments_of file) a ≡ None
place_above file a facts high =
    place_is (segments_of file) a ∙ ap (option_map (λ h. place_in h a)) (none_above file a facts high)

pub range_above : (file : List ℕ) (rest : List Range) (a : ℕ) → AcceptedFacts file → image_end (segments_of file) ≤ a
    → range_at (map (range_of file) (filter is_loaded (segments_of file)) ++ rest) a ≡ range_at rest a
range_above file rest a facts high =
    range_is file (segments_of file) rest a facts.facts.segments
    ∙ ap (λ o. range_or file o (range_at rest a)) (none_above file a facts high)

-- a segment loads the byte at an offset of the file at an address
pub record IsLoadedBy (g : Segment) (a i : ℕ) : Type 0 where
  pub loaded : is_loaded g ≡ true
  pub low : g.vaddr ≤ a
  pub high : a < g.vaddr + g.file_size
  pub offset : i + g.vaddr ≡ g.offset + a

abbrev pub IsLoadedAt : List ℕ → ℕ → ℕ → Type 0
IsLoadedAt file a i = (g : Segment) × IsOneOf g (segments_of file) × IsLoadedBy g a i

between_true : (b : Bool) (v m a : ℕ) → b ≡ true → v ≤ a → a < v + m → (b && (nat_le v a && nat_lt a (v + m))) ≡ true
between_true true v m a e l h = grind (arith, nat_tests)
between_true false v m a e l h = absurd (cc)

pub in_segment : (file : List ℕ) (a i : ℕ) (g : Segment) → ReadableFacts file → IsOneOf g (segments_of file)
    → IsLoadedBy g a i → is_in a g ≡ true
in_segment file a i g facts one by =
    let inside : IsInside (length file) g = all_of (IsLoadedInside (length file))
    (segments_of file) g facts.segments one by.loaded in
    between_true (is_loaded g) g.vaddr g.mem_size a by.loaded by.low (omega (arith, by.high, inside.fits))

pub loaded_place : (file : List ℕ) (a i : ℕ) → ReadableFacts file → IsLoadedAt file a i
    → place_at (segments_of file) a ≡ Some (InFile i)
loaded_place file a i facts (g, one, by) =
    place_there file a g facts one (in_segment file a i g facts one by) ∙ ap Some (in_file g a i by)
  where
    in_file : (g : Segment) (a i : ℕ) → IsLoadedBy g a i → place_in g a ≡ InFile i
    in_file g a i by =
        let part : nat_lt (a - g.vaddr) g.file_size ≡ true = let l : a - g.vaddr < g.file_size =
        omega (arith, by.low, by.high) in grind (arith, nat_tests) in
        let same : g.offset + (a - g.vaddr) ≡ i = omega (arith, by.low, by.offset) in
        rw (part, same) refl

pub loaded_inside : (file : List ℕ) (a i : ℕ) → ReadableFacts file → IsLoadedAt file a i → i < length file
loaded_inside file a i facts (g, one, by) =
    let inside : IsInside (length file) g = all_of (IsLoadedInside (length file))
    (segments_of file) g facts.segments one by.loaded in
    omega (arith, by.low, by.high, by.offset, inside.file)

-- a byte of the file is loaded at one address
pub one_address : (file : List ℕ) (a b i : ℕ) → ReadableFacts file → IsLoadedAt file a i → IsLoadedAt file b i → a ≡ b
one_address file a b i facts (g, one, by) (h, two, at_h) =
    at (one_or_two IsApart (segments_of file) g h facts.apart one two)
  where
    meet : (s t : Segment) (x y : ℕ) → IsApart s t → IsLoadedBy s x i → IsLoadedBy t y i → ⊥
    meet s t x y apart u v =
        no_offset i s t apart u.loaded v.loaded (omega (arith, u.low, u.offset))
        (omega (arith, u.low, u.high, u.offset))
        (omega (arith, v.low, v.offset)) (omega (arith, v.low, v.high, v.offset))

    at : (g ≡ h) ⊎ (IsApart g h ⊎ IsApart h g) → a ≡ b
    at (inl same) = let here : IsLoadedBy g b i =
        subst (λ s. IsLoadedBy s b i) (sym same) at_h in omega (arith, by.offset, here.offset)
    at (inr (inl apart)) = absurd (meet g h a b apart by at_h)
    at (inr (inr apart)) = absurd (meet h g b a apart at_h by)
