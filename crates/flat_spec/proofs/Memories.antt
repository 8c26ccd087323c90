-- Laws of memory: what depends on the ranges and flags alone, and which bytes a store changes.
use Rattle.std.proofs.Common.{◌≡◌, ◌≢◌, ℕ, ◌+◌, ◌-◌, ◌<◌, ◌≤◌, List, [], ◌∷◌, Bool, true, false, cond, ◌&&◌, length}
use Rattle.std.proofs.Common.{map, refl, ap, sym, ◌∙◌, arith, length-set, get_or-set_same, get_or-set_other}
use Rattle.std.specs.Prelude.{Option, Some, None, option_map, is_some, find, nat_le, nat_lt, slice_index, slice_set}
use Rattle.std.proofs.lemmas.Bool.Decides.{nat_tests}
use Rattle.machine_spec.specs.Memory.{Range, Shape, shape_of, covers, range_at, byte_of}
use Rattle.flat_spec.specs.Stores.{allows_store, allows_fetch, put_byte}

abbrev pub shape_covers : ℕ → Shape → Bool
shape_covers a s = nat_le s.start a && nat_lt a (s.start + s.size)

-- the shape of the range at an address is found among the shapes
pub range_shape : (m : List Range) (a : ℕ) → option_map shape_of (range_at m a) ≡ find (shape_covers a) (map shape_of m)
range_shape [] a = refl
range_shape (r ∷ rs) a = at (range_shape rs a) (covers a r)
  where
    at : option_map shape_of (range_at rs a) ≡ find (shape_covers a) (map shape_of rs) → (v : Bool)
        → option_map shape_of (cond v (Some r) (range_at rs a))
        ≡ cond v (Some (shape_of r)) (find (shape_covers a) (map shape_of rs))
    at h true = refl
    at h false = h

pub same_range : (m n : List Range) (a : ℕ) → map shape_of m ≡ map shape_of n
    → option_map shape_of (range_at m a) ≡ option_map shape_of (range_at n a)
same_range m n a e = range_shape m a ∙ ap (find (shape_covers a)) e ∙ sym (range_shape n a)

abbrev pub shape_writable : Option Shape → Bool
shape_writable (Some s) = s.writable
shape_writable None = false

abbrev pub shape_executable : Option Shape → Bool
shape_executable (Some s) = s.executable
shape_executable None = false

pub writable_shape : (o : Option Range) → allows_store o ≡ shape_writable (option_map shape_of o)
writable_shape (Some r) = refl
writable_shape None = refl

pub executable_shape : (o : Option Range) → allows_fetch o ≡ shape_executable (option_map shape_of o)
executable_shape (Some r) = refl
executable_shape None = refl

pub is_some_shape : (o : Option Range) → is_some o ≡ is_some (option_map shape_of o)
is_some_shape (Some r) = refl
is_some_shape None = refl

-- memories of one shape can be stored to, run and read at the same addresses
pub same_writable : (m n : List Range) (a : ℕ) → map shape_of m ≡ map shape_of n
    → allows_store (range_at m a) ≡ allows_store (range_at n a)
same_writable m n a e =
    writable_shape (range_at m a) ∙ ap shape_writable (same_range m n a e) ∙ sym (writable_shape (range_at n a))

pub same_executable : (m n : List Range) (a : ℕ) → map shape_of m ≡ map shape_of n
    → allows_fetch (range_at m a) ≡ allows_fetch (range_at n a)
same_executable m n a e =
    executable_shape (range_at m a) ∙ ap shape_executable (same_range m n a e) ∙ sym (executable_shape (range_at n a))

pub same_there : (m n : List Range) (a : ℕ) → map shape_of m ≡ map shape_of n
    → is_some (range_at m a) ≡ is_some (range_at n a)
same_there m n a e =
    is_some_shape (range_at m a) ∙ ap is_some (same_range m n a e) ∙ sym (is_some_shape (range_at n a))

-- a byte is there exactly where a range is
pub byte_there : (m : List Range) (a : ℕ) → is_some (byte_of m a) ≡ is_some (range_at m a)
unfolding byte_of
byte_there m a = at (range_at m a)
  where
    at : (o : Option Range) → is_some (option_map (λ r. slice_index r.bytes (a - r.start)) o) ≡ is_some o
    at (Some r) = refl
    at None = refl

pub covers_bounds : (a : ℕ) (r : Range) → covers a r ≡ true → (r.start ≤ a) × (a < r.start + length r.bytes)
covers_bounds a r e = grind (arith, nat_tests)

-- a store of a byte keeps the shape
pub put_byte_shape : (m : List Range) (a b : ℕ) → map shape_of (put_byte m a b) ≡ map shape_of m
put_byte_shape [] a b = refl
put_byte_shape (r ∷ rs) a b = at (put_byte_shape rs a b) (covers a r)
  where
    at : map shape_of (put_byte rs a b) ≡ map shape_of rs → (v : Bool)
        → map shape_of (cond v (record r { bytes = slice_set r.bytes (a - r.start) b } ∷ rs) (r ∷ put_byte rs a b))
        ≡ shape_of r ∷ map shape_of rs
    at h true =
        ap (λ n. record { start = r.start; size = n; writable = r.writable; executable = r.executable }
        ∷ map shape_of rs)
        (length-set r.bytes (a - r.start) b)
    at h false = ap (λ s. shape_of r ∷ s) h

-- the byte that was stored is there
pub put_there : (m : List Range) (a b : ℕ) → is_some (range_at m a) ≡ true → byte_of (put_byte m a b) a ≡ Some b
unfolding byte_of
put_there [] a b h = cc
put_there (r ∷ rs) a b h = at (put_there rs a b) (covers a r) refl h
  where
    at : (is_some (range_at rs a) ≡ true → option_map (λ r. slice_index r.bytes (a - r.start))
        (range_at (put_byte rs a b) a) ≡ Some b) → (v : Bool) → covers a r ≡ v
        → is_some (cond v (Some r) (range_at rs a)) ≡ true
        → option_map (λ r. slice_index r.bytes (a - r.start))
        (range_at (cond v (record r { bytes = slice_set r.bytes (a - r.start) b } ∷ rs) (r ∷ put_byte rs a b)) a)
        ≡ Some b
    at ih true e h =
        let bounds : (r.start ≤ a) × (a < r.start + length r.bytes) = covers_bounds a r e in
        let inside : a - r.start < length r.bytes = omega (arith, bounds.0, bounds.1) in
        rw (length-set r.bytes (a - r.start) b, e) (ap (λ x. Some x) (get_or-set_same r.bytes (a - r.start) b 0 inside))
    at ih false e h = rw e (ih h)

-- every other byte stays
pub put_elsewhere : (m : List Range) (a b k : ℕ) → k ≢ a → byte_of (put_byte m a b) k ≡ byte_of m k
unfolding byte_of
put_elsewhere [] a b k n = refl
put_elsewhere (r ∷ rs) a b k n = at (put_elsewhere rs a b k n) (covers a r) refl
  where
    stays : (v : Bool) → covers k r ≡ v → covers a r ≡ true
        → option_map (λ r. slice_index r.bytes (k - r.start))
        (cond v (Some (record r { bytes = slice_set r.bytes (a - r.start) b })) (range_at rs k))
        ≡ option_map (λ r. slice_index r.bytes (k - r.start)) (cond v (Some r) (range_at rs k))
    stays true e f =
        let there : (r.start ≤ k) × (k < r.start + length r.bytes) = covers_bounds k r e in
        let here : (r.start ≤ a) × (a < r.start + length r.bytes) = covers_bounds a r f in
        let other : k - r.start ≢ a - r.start = omega (arith, there.0, here.0, n) in
        ap (λ x. Some x) (get_or-set_other r.bytes (a - r.start) (k - r.start) b 0 other)
    stays false e f = refl

    at : option_map (λ r. slice_index r.bytes (k - r.start)) (range_at (put_byte rs a b) k)
        ≡ option_map (λ r. slice_index r.bytes (k - r.start)) (range_at rs k) → (v : Bool) → covers a r ≡ v
        → option_map (λ r. slice_index r.bytes (k - r.start))
        (range_at (cond v (record r { bytes = slice_set r.bytes (a - r.start) b } ∷ rs) (r ∷ put_byte rs a b)) k)
        ≡ option_map (λ r. slice_index r.bytes (k - r.start)) (range_at (r ∷ rs) k)
    at ih true e = rw (length-set r.bytes (a - r.start) b) (stays (covers k r) refl e)
    at ih false e = below (covers k r)
      where
        below : (v : Bool) → option_map (λ r. slice_index r.bytes (k - r.start))
            (cond v (Some r) (range_at (put_byte rs a b) k))
            ≡ option_map (λ r. slice_index r.bytes (k - r.start)) (cond v (Some r) (range_at rs k))
        below true = refl
        below false = ih
