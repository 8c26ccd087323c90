-- Laws of stores of several bytes, and of what is read back.
use Rattle.std.proofs.Common.{◌≡◌, ◌≢◌, ◌⊎◌, ℕ, zero, suc, ◌+◌, ◌^◌, ◌<◌, ◌≤◌, List, [], ◌∷◌, true, length, map, refl}
use Rattle.std.proofs.Common.{◌∙◌, arith, inl, inr, get_or}
use Rattle.std.specs.Prelude.{Option, Some, None, is_some}
use Rattle.machine_spec.specs.Memory.{Range, shape_of, range_at, byte_of, all_from}
use Rattle.machine_spec.specs.Widths.{number_of, low_bytes}
use Rattle.machine_spec.proofs.AllFrom.{all_agree}
use Rattle.flat_spec.specs.Stores.{allows_store, allows_fetch, put_byte, put_bytes, bytes_from, can_store, fetched}
use Rattle.flat_spec.proofs.Memories.{put_byte_shape, put_there, put_elsewhere, same_there, same_executable}
use Rattle.flat_spec.proofs.Memories.{same_writable}

-- a store keeps the shape
pub put_bytes_shape : (m : List Range) (a : ℕ) (bs : List ℕ) → map shape_of (put_bytes m a bs) ≡ map shape_of m
put_bytes_shape m a [] = refl
put_bytes_shape m a (b ∷ bs) = put_bytes_shape (put_byte m a b) (a + 1) bs ∙ put_byte_shape m a b

-- bytes outside the piece stay
pub put_bytes_elsewhere : (m : List Range) (a : ℕ) (bs : List ℕ) (k : ℕ) → (k < a) ⊎ (a + length bs ≤ k)
    → byte_of (put_bytes m a bs) k ≡ byte_of m k
put_bytes_elsewhere m a [] k h = refl
put_bytes_elsewhere m a (b ∷ bs) k h =
    put_bytes_elsewhere (put_byte m a b) (a + 1) bs k (further h) ∙ put_elsewhere m a b k (other h)
  where
    further : (k < a) ⊎ (a + length (b ∷ bs) ≤ k) → (k < a + 1) ⊎ (a + 1 + length bs ≤ k)
    further (inl l) = inl (omega arith)
    further (inr r) = inr (omega arith)

    other : (k < a) ⊎ (a + length (b ∷ bs) ≤ k) → k ≢ a
    other (inl l) = omega arith
    other (inr r) = omega arith

-- the bytes of the piece are there, where memory is
pub put_bytes_there : (m : List Range) (a : ℕ) (bs : List ℕ)
    → ((k : ℕ) → a ≤ k → k < a + length bs → is_some (range_at m k) ≡ true)
    → (i : ℕ) → i < length bs → byte_of (put_bytes m a bs) (a + i) ≡ Some (get_or bs i 0)
put_bytes_there m a [] covered i h = absurd (omega arith)
put_bytes_there m a (b ∷ bs) covered zero h =
    let same : a + 0 ≡ a = omega arith in
    rw same (put_bytes_elsewhere (put_byte m a b) (a + 1) bs a (inl (omega arith))
    ∙ put_there m a b (covered a (omega arith) (omega arith)))
put_bytes_there m a (b ∷ bs) covered (suc i) h =
    let next : a + suc i ≡ a + 1 + i = omega arith in
    rw next (put_bytes_there (put_byte m a b) (a + 1) bs
    (λ k low high. same_there (put_byte m a b) m k (put_byte_shape m a b) ∙ covered k (omega arith) (omega arith)) i
    (omega arith))

-- memories with the same bytes at some addresses are read alike there
pub bytes_from_same : (m n : List Range) (a size : ℕ) → ((k : ℕ) → a ≤ k → k < a + size → byte_of m k ≡ byte_of n k)
    → bytes_from m a size ≡ bytes_from n a size
bytes_from_same m n a zero h = refl
bytes_from_same m n a (suc size) h =
    rw (
      h a (omega arith) (omega arith),
      bytes_from_same m n (a + 1) size
          (λ k low high. h k (omega arith) (omega arith)),
    ) refl

-- and run alike, where they have one shape
pub fetched_same : (m n : List Range) (a : ℕ) → map shape_of m ≡ map shape_of n
    → ((k : ℕ) → a ≤ k → k < a + 4 → byte_of m k ≡ byte_of n k) → fetched m a ≡ fetched n a
unfolding fetched
fetched_same m n a e h =
    let code : all_from (λ k. allows_fetch (range_at m k)) a 4 ≡ all_from (λ k. allows_fetch (range_at n k)) a 4 =
    all_agree (λ k. allows_fetch (range_at m k)) (λ k. allows_fetch (range_at n k)) a 4
    (λ k low high. same_executable m n k e) in
    rw (code, bytes_from_same m n a 4 h) refl

pub storable_same : (m n : List Range) (a size : ℕ) → map shape_of m ≡ map shape_of n
    → can_store m a size ≡ can_store n a size
storable_same m n a size e =
    all_agree (λ k. allows_store (range_at m k)) (λ k. allows_store (range_at n k)) a size
    (λ k low high. same_writable m n k e)

-- what can be stored to is memory
pub writable_there : (m : List Range) (a : ℕ) → allows_store (range_at m a) ≡ true → is_some (range_at m a) ≡ true
writable_there m a h = at (range_at m a) h
  where
    at : (o : Option Range) → allows_store o ≡ true → is_some o ≡ true
    at (Some r) h = refl
    at None h = absurd (cc)

-- the bytes at some addresses, read as a list
pub bytes_from_are : (m : List Range) (a : ℕ) (bs : List ℕ) →
    ((i : ℕ) → i < length bs → byte_of m (a + i) ≡ Some (get_or bs i 0))
    → bytes_from m a (length bs) ≡ Some bs
bytes_from_are m a [] h = refl
bytes_from_are m a (b ∷ bs) h =
    let first : byte_of m a ≡ Some b = let same : a + 0 ≡ a = omega arith in rw same at (h 0 (omega arith)) in
    let rest : bytes_from m (a + 1) (length bs) ≡ Some bs =
    bytes_from_are m (a + 1) bs (λ i l. let next : a + suc i ≡ a + 1 + i = omega arith in
    rw next at (h (suc i) (omega arith))) in
    rw (first, rest) refl

-- a word is the number of its four bytes
pub number_low : (v : ℕ) → v < 2 ^ 32 → number_of (low_bytes 4 v) ≡ v
number_low v h = omega arith
