-- What is read from pages: bytes and numbers whose addresses allow an access.
use Rattle.std.proofs.Common.{◌≡◌, ℕ, zero, suc, ◌+◌, ◌-◌, ◌%◌, ◌/◌, ◌<◌, ◌≤◌, List, Bool, true, false, ◌&&◌}
use Rattle.std.proofs.Common.{take, drop, refl, sym, ap, ◌∙◌, arith, ◌⊎◌, inl, inr, AllPairs}
use Rattle.std.proofs.lemmas.Bool.{cases_lt}
use Rattle.std.proofs.lemmas.List.{get_or_past}
use Rattle.std.specs.Prelude.{Option, Some, None, option_map, is_some, slice_index, ◌==◌}
use Rattle.rv_isa.specs.declared.Width.{Width}
use Rattle.machine_spec.specs.Memory.{Range, range_at, byte_of, all_from}
use Rattle.machine_spec.specs.Widths.{low_bytes, number_of, size_of}
use Rattle.machine_spec.proofs.AllFrom.{and_first, each_passes}
use Rattle.flat_spec.specs.Stores.{bytes_from, put_bytes}
use Rattle.flat_mem.specs.declared.area.Area.{Area}
use Rattle.flat_mem.specs.declared.area.Access.{Access}
use Rattle.flat_mem.specs.declared.area.Access.TheVariants.{Load, Store}
use Rattle.flat_mem.specs.Areas.{allows, area_of, byte_in, over, page_at, place, ranges, written, AreApart, IsPaged}
use Rattle.flat_mem.proofs.Found.{byte_found}
use Rattle.flat_mem.proofs.Numbers.{area_there, bytes_are, length-low_bytes, number_in_page, size_some, BytesThere}
use Rattle.flat_mem.proofs.Pages.{part_is, written_over}
use Rattle.flat_mem.proofs.Puts.{over_moved, put_is}

pub one_test : (b : Bool) → (b && true) ≡ b
one_test true = refl
one_test false = refl

-- a byte
pub byte_is : (areas : List Area) (d bytes rights : List ℕ) (access : Access) (a : ℕ) → IsPaged areas d bytes rights
    → all_from (λ k. allows access (range_at (ranges (byte_in d bytes) areas) k)) a 1 ≡ true
    → byte_of (ranges (byte_in d bytes) areas) a ≡ Some (slice_index bytes (place d a))
byte_is areas d bytes rights access a h all =
    at (area_of areas a) refl (area_there (byte_in d bytes) access areas a
    (and_first (allows access (range_at (ranges (byte_in d bytes) areas) a)) true all))
  where
    at : (o : Option Area) → area_of areas a ≡ o → is_some o ≡ true
        → byte_of (ranges (byte_in d bytes) areas) a ≡ Some (byte_in d bytes a)
    at (Some s) e t = byte_found (byte_in d bytes) a areas s e
    at None e t = absurd (cc)

pub no_byte_is : BytesThere → (m : List Range) (a : ℕ) → all_from (λ k. allows Load (range_at m k)) a 1 ≡ false
    → byte_of m a ≡ None
no_byte_is there m a none = at (byte_of m a) (there m a ∙ sym (one_test (is_some (range_at m a))) ∙ none)
  where
    at : (o : Option ℕ) → is_some o ≡ false → o ≡ None
    at None e = refl
    at (Some b) e = absurd (cc)

-- addresses that allow an access have pages, which no address behind the last one has
pub all_there : (areas : List Area) (d bytes rights : List ℕ) (access : Access) (a n : ℕ) → IsPaged areas d bytes rights
    → all_from (λ k. allows access (range_at (ranges (byte_in d bytes) areas) k)) a n ≡ true
    → (k : ℕ) → a ≤ k → k < a + n → 0 < page_at d k
all_there areas d bytes rights access a n h all k low high =
    h.there k (area_there (byte_in d bytes) access areas k
    (each_passes (λ i. allows access (range_at (ranges (byte_in d bytes) areas) i)) a n all k low high))

page_ends : (areas : List Area) (d bytes rights : List ℕ) (a : ℕ) → IsPaged areas d bytes rights → 0 < page_at d a
    → a < 4294967296
page_ends areas d bytes rights a h some = at (cases_lt a 4294967296)
  where
    at : (a < 4294967296) ⊎ (4294967296 ≤ a) → a < 4294967296
    at (inl l) = l
    at (inr l) =
        let none : page_at d a ≡ 0 = get_or_past d (a / 4096) 0 (omega (arith, l, h.directs.long)) in
        absurd (omega (arith, none, some))

pub all_end : (areas : List Area) (d bytes rights : List ℕ) (access : Access) (a n : ℕ) → IsPaged areas d bytes rights
    → all_from (λ k. allows access (range_at (ranges (byte_in d bytes) areas) k)) a n ≡ true → 0 < n
    → a + n ≤ 4294967296
all_end areas d bytes rights access a n h all some =
    let last : a + (n - 1) < 4294967296 = page_ends areas d bytes rights (a + (n - 1)) h
    (all_there areas d bytes rights access a n h all (a + (n - 1)) (omega arith) (omega (arith, some))) in
    omega (arith, last, some)

pub none_behind : (areas : List Area) (d bytes rights : List ℕ) (access : Access) (a n : ℕ)
    → IsPaged areas d bytes rights → 4294967296 ≤ a → 0 < n
    → all_from (λ k. allows access (range_at (ranges (byte_in d bytes) areas) k)) a n ≡ false
none_behind areas d bytes rights access a n h high some =
    at (all_from (λ k. allows access (range_at (ranges (byte_in d bytes) areas) k)) a n) refl
  where
    at : (v : Bool) → all_from (λ k. allows access (range_at (ranges (byte_in d bytes) areas) k)) a n ≡ v → v ≡ false
    at false e = refl
    at true e = absurd (omega (arith, all_end areas d bytes rights access a n h e some, high, some))

-- some addresses of those that are left
passes_split : (test : ℕ → Bool) (a n m : ℕ) → all_from test a (n + m) ≡ (all_from test a n && all_from test (a + n) m)
passes_split test a zero m =
    let here : a + 0 ≡ a = omega arith in
    let none : 0 + m ≡ m = omega arith in
    rw (here, none) refl
passes_split test a (suc n) m =
    let more : suc n + m ≡ suc (n + m) = omega arith in
    let far : a + suc n ≡ a + 1 + n = omega arith in
    rw (more, far) (ap (λ b. test a && b) (passes_split test (a + 1) n m)
    ∙ sym (and_assoc (test a) (all_from test (a + 1) n) (all_from test (a + 1 + n) m)))
  where
    and_assoc : (p q r : Bool) → ((p && q) && r) ≡ (p && (q && r))
    and_assoc true q r = refl
    and_assoc false q r = refl

pub some_left : (test : ℕ → Bool) (a b done n len : ℕ) (v : Bool) → done + n ≤ len → b ≡ a + done
    → all_from test b n ≡ v
    → all_from test (a + done) (len - done) ≡ (v && all_from test (a + (done + n)) (len - (done + n)))
some_left test a b done n len v l e h =
    let left : len - done ≡ n + (len - (done + n)) = omega (arith, l) in
    let far : a + done + n ≡ a + (done + n) = omega arith in
    let here : all_from test (a + done) n ≡ v = rw e at h in
    rw left (passes_split test (a + done) n (len - (done + n))
    ∙ ap (λ b. b && all_from test (a + done + n) (len - (done + n))) here
    ∙ ap (λ i. v && all_from test i (len - (done + n))) far)

-- a number
pub number_is : (areas : List Area) (d bytes rights : List ℕ) (access : Access) (width : Width) (a p n : ℕ)
    (buffer : List ℕ) → IsPaged areas d bytes rights → a % size_of width ≡ 0
    → all_from (λ k. allows access (range_at (ranges (byte_in d bytes) areas) k)) a (size_of width) ≡ true
    → buffer ≡ bytes → p ≡ place d a → n ≡ number_of (take (size_of width) (drop p buffer))
    → option_map number_of (bytes_from (ranges (byte_in d bytes) areas) a (size_of width)) ≡ Some n
number_is areas d bytes rights access width a p n buffer h aligned all b q r =
    ap (option_map number_of) (bytes_are (byte_in d bytes) access areas a (size_of width) all)
    ∙ ap (λ bs. Some (number_of bs)) (sym (part_is d bytes a (size_of width) h.directs
    (number_in_page width a aligned)))
    ∙ ap (λ bs. Some (number_of (take (size_of width) (drop (place d a) bs)))) (sym b)
    ∙ ap (λ i. Some (number_of (take (size_of width) (drop i buffer)))) (sym q) ∙ ap (λ m. Some m) (sym r)

-- stores: of a piece, and of a number
pub some_there : (n : ℕ) → false ≡ (n == 0) → 0 < n
some_there zero e = absurd (cc)
some_there (suc n) e = omega arith

pub piece_stored : (areas : List Area) (d e bytes buffer new : List ℕ) (a : ℕ) (piece : List ℕ)
    → AllPairs AreApart areas → e ≡ d → buffer ≡ bytes
    → ((k : ℕ) → byte_in e new k ≡ over (byte_in e buffer) a piece k)
    → ranges (byte_in d new) areas ≡ put_bytes (ranges (byte_in d bytes) areas) a piece
piece_stored areas d e bytes buffer new a piece apart f g same =
    put_is piece (byte_in d bytes) (byte_in d new) a areas apart
    (over_moved d e bytes buffer new a piece f g same)

pub number_stored : (areas : List Area) (d bytes rights : List ℕ) (width : Width) (a v p : ℕ) (buffer new : List ℕ)
    → IsPaged areas d bytes rights → a % size_of width ≡ 0
    → all_from (λ k. allows Store (range_at (ranges (byte_in d bytes) areas) k)) a (size_of width) ≡ true
    → buffer ≡ bytes → p ≡ place d a → new ≡ written buffer p (low_bytes (size_of width) v)
    → ranges (byte_in d new) areas ≡ put_bytes (ranges (byte_in d bytes) areas) a (low_bytes (size_of width) v)
number_stored areas d bytes rights width a v p buffer new h aligned all b q w =
    put_is (low_bytes (size_of width) v) (byte_in d bytes) (byte_in d new) a areas h.apart
    (λ k. ap (λ xs. byte_in d xs k) (w ∙ ap (λ xs. written xs p (low_bytes (size_of width) v)) b
    ∙ ap (λ i. written bytes i (low_bytes (size_of width) v)) q)
    ∙ written_over d bytes a (low_bytes (size_of width) v) k h.directs
    (all_there areas d bytes rights Store a (size_of width) h all a (omega arith) (omega (arith, size_some width)))
    (omega (arith, number_in_page width a aligned, length-low_bytes (size_of width) v)))
