-- Parts of a buffer in memory.
use Rattle.std.proofs.Common.{◌≡◌, ℕ, zero, suc, ◌+◌, ◌<◌, ◌≤◌, ◌↔◌, Bool, map, List, [], ◌∷◌, ◌++◌, true, length, take}
use Rattle.std.proofs.Common.{drop, refl, ap, sym, ◌∙◌, arith}
use Rattle.std.specs.Prelude.{Option, Some, None, is_some, option_map, option_and_then, unwrap_or, slice_index}
use Rattle.machine_spec.specs.Memory.{Range, all_from, shape_of, range_at, byte_of}
use Rattle.flat_spec.specs.Stores.{allows_store, bytes_from, can_store, put_byte, put_bytes}
use Rattle.flat_spec.specs.Machine.{Machine, register}
use Rattle.machine_run.specs.declared.pause.Pause.{Pause}
use Rattle.machine_run.specs.declared.pause.Pause.TheVariants as pause
use Rattle.flat_machine.specs.Seen.{FlatSeen}
use Rattle.flat_machine.specs.Steps.{buffer_of, IsInMemory}
use Rattle.flat_machine.specs.Paused.{seen_of, written_of, IsPaused}

-- bytes that are read begin with that at the first address
record Begins (m : List Range) (a n : ℕ) (bs : List ℕ) : Type 0 where
  first : ℕ
  rest : List ℕ
  is : bs ≡ first ∷ rest
  here : byte_of m a ≡ Some first
  behind : bytes_from m (a + 1) n ≡ Some rest

begins : (m : List Range) (a n : ℕ) (bs : List ℕ) → bytes_from m a (suc n) ≡ Some bs → Begins m a n bs
begins m a n bs h = at (byte_of m a) (bytes_from m (a + 1) n) refl refl h
  where
    at : (b : Option ℕ) (r : Option (List ℕ)) → byte_of m a ≡ b → bytes_from m (a + 1) n ≡ r
        → option_and_then (λ b. option_map (λ bs. b ∷ bs) r) b ≡ Some bs → Begins m a n bs
    at (Some b) (Some r) e f h = record { first = b; rest = r; is = cc; here = e; behind = f }
    at (Some b) None e f h = absurd (cc)
    at None r e f h = absurd (cc)

-- as many bytes are read as were asked for
pub length_read : (m : List Range) (a n : ℕ) (bs : List ℕ) → bytes_from m a n ≡ Some bs → length bs ≡ n
length_read m a zero bs h = let e : bs ≡ [] = cc in rw e refl
length_read m a (suc n) bs h =
    let b = begins m a n bs h in
    let r : length b.rest ≡ n = length_read m (a + 1) n b.rest b.behind in
    ap length b.is ∙ ap suc r

-- the front of what is read
read_front : (m : List Range) (a k n : ℕ) (bs : List ℕ) → bytes_from m a n ≡ Some bs → k ≤ n
    → bytes_from m a k ≡ Some (take k bs)
read_front m a zero n bs h le = refl
read_front m a (suc k) zero bs h le = absurd (omega arith)
read_front m a (suc k) (suc n) bs h le =
    let b = begins m a n bs h in
    let r : bytes_from m (a + 1) k ≡ Some (take k b.rest) = read_front m (a + 1) k n b.rest b.behind (omega arith) in
    let joined : bytes_from m a (suc k) ≡ Some (take (suc k) (b.first ∷ b.rest)) = rw (b.here, r) refl in
    joined ∙ ap (λ x. Some (take (suc k) x)) (sym b.is)

-- a part of what is read
pub read_part : (m : List Range) (a i k n : ℕ) (bs : List ℕ) → bytes_from m a n ≡ Some bs → i + k ≤ n
    → bytes_from m (a + i) k ≡ Some (take k (drop i bs))
read_part m a zero k n bs h le =
    let same : a + 0 ≡ a = omega arith in
    rw same (read_front m a k n bs h (omega arith))
read_part m a (suc i) k zero bs h le = absurd (omega arith)
read_part m a (suc i) k (suc n) bs h le =
    let b = begins m a n bs h in
    let next : a + suc i ≡ a + 1 + i = omega arith in
    let behind : bytes_from m (a + suc i) k ≡ Some (take k (drop (suc i) (b.first ∷ b.rest))) =
    rw next (read_part m (a + 1) i k n b.rest b.behind (omega arith)) in
    behind ∙ ap (λ x. Some (take k (drop (suc i) x))) (sym b.is)

-- what the laws of memory say
abbrev pub PassTogether : Type 0
PassTogether = (test : ℕ → Bool) (a n : ℕ) → (all_from test a n ≡ true) ↔ ((k : ℕ) → a ≤ k → k < a + n → test k ≡ true)

abbrev pub KeepRanges : Type 0
KeepRanges = (m : List Range) (a : ℕ) (bytes : List ℕ) → map shape_of (put_bytes m a bytes) ≡ map shape_of m

abbrev pub SameStores : Type 0
SameStores = (m n : List Range) (a size : ℕ) → map shape_of m ≡ map shape_of n → can_store m a size ≡ can_store n a size

-- a part of a buffer that can be stored to
pub storable_part : PassTogether → (m : List Range) (a i k n : ℕ) → can_store m a n ≡ true → i + k ≤ n
    → can_store m (a + i) k ≡ true
storable_part together m a i k n h le =
    (together (λ k. allows_store (range_at m k)) (a + i) k).1
    (λ j low high. (together (λ k. allows_store (range_at m k)) a n).0 h j (omega arith) (omega arith))

-- what can be stored to stays so
pub storable_after : KeepRanges → SameStores → (m : List Range) (a n b : ℕ) (bs : List ℕ) → can_store m a n ≡ true
    → can_store (put_bytes m b bs) a n ≡ true
storable_after keep same m a n b bs h = same (put_bytes m b bs) m a n (keep m b bs) ∙ h

-- two pieces, one behind the other
pub put_append : (m : List Range) (a : ℕ) (xs ys : List ℕ)
    → put_bytes (put_bytes m a xs) (a + length xs) ys ≡ put_bytes m a (xs ++ ys)
put_append m a [] ys = let same : a + 0 ≡ a = omega arith in rw same refl
put_append m a (x ∷ xs) ys =
    let next : a + length (x ∷ xs) ≡ a + 1 + length xs = omega arith in
    rw next (put_append (put_byte m a x) (a + 1) xs ys)

-- the bytes that a step wrote, in memory at a1
there : (m : List Range) (a n : ℕ) (o : Option (List ℕ)) → bytes_from m a n ≡ o → is_some o ≡ true
    → bytes_from m a (length (unwrap_or o [])) ≡ Some (unwrap_or o [])
there m a n (Some bs) e h = ap (λ k. bytes_from m a k) (length_read m a n bs e) ∙ e
there m a n None e h = absurd (cc)

long : (m : List Range) (a n : ℕ) (o : Option (List ℕ)) → bytes_from m a n ≡ o → is_some o ≡ true
    → length (unwrap_or o []) ≡ n
long m a n (Some bs) e h = length_read m a n bs e
long m a n None e h = absurd (cc)

-- a buffer has as many bytes as was asked for
pub buffer_long : (m : Machine) (len : ℕ) → IsInMemory m len → length (buffer_of m len) ≡ len
buffer_long m len h = long m.memory (register m 11) len _ refl h

written_there : (p : Pause) (m : Machine) → IsPaused p m
    → bytes_from m.memory (register m 11) (length (written_of p m)) ≡ Some (written_of p m)
written_there pause.Nothing m paused = refl
written_there (pause.Input len fed) m paused = refl
written_there (pause.Output len) m paused = there m.memory (register m 11) len _ refl paused

-- a part of them
pub written_part : (p : Pause) (m : Machine) (s : FlatSeen) (from n : ℕ) → seen_of p m ≡ s → IsPaused p m
    → from + n ≤ length s.written → bytes_from m.memory (register m 11 + from) n ≡ Some (take n (drop from s.written))
written_part p m s from n e paused le =
    let same : written_of p m ≡ s.written = ap (λ s. s.written) e in
    let there : bytes_from m.memory (register m 11) (length s.written) ≡ Some s.written =
    rw same at (written_there p m paused) in
    read_part m.memory (register m 11) from n (length s.written) s.written there le

pub some_is : {A : Type 0} {x y : A} → Some x ≡ Some y → x ≡ y
some_is h = cc

-- one of a list's elements
pub first_of : (bs : List ℕ) (i : ℕ) → i < length bs → slice_index (take 1 (drop i bs)) 0 ≡ slice_index bs i
first_of [] i l = absurd (omega arith)
first_of (b ∷ bs) zero l = refl
first_of (b ∷ bs) (suc i) l = first_of bs i (omega arith)
