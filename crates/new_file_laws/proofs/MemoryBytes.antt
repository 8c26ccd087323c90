-- The bytes with which the memory of a file starts are below 256, where the file's are.
use Rattle.std.proofs.Common.{◌≡◌, ℕ, zero, suc, ◌-◌, ◌<◌, List, [], ◌∷◌, ◌++◌, Bool, true, false, cond, take, drop}
use Rattle.std.proofs.Common.{replicate, filter, map, arith}
use Rattle.std.specs.Prelude.{Some, option_map, slice_index}
use Rattle.std.specs.List.{All}
use Rattle.std.proofs.lemmas.List.Elements.{All-append, All-cons, All-drop, All-head, All-nil, All-tail, All-take}
use Rattle.elf_spec.specs.declared.Segment.{Segment}
use Rattle.elf_spec.specs.Memory.{is_loaded}
use Rattle.elf_spec.specs.Records.{segments_of}
use Rattle.machine_spec.specs.Memory.{Range, byte_of, covers, memory_of, range_at, range_of, stack, stack_size}

abbrev AreBytes : List ℕ → Type 0
AreBytes bs = All (λ b. b < 256) bs

zeros : (n : ℕ) → AreBytes (replicate n 0)
zeros zero = All-nil (λ b. b < 256)
zeros (suc n) = All-cons (λ b. b < 256) 0 (replicate n 0) (omega arith) (zeros n)

read_small : (bs : List ℕ) (i : ℕ) → AreBytes bs → slice_index bs i < 256
read_small [] i h = omega arith
read_small (b ∷ bs) zero h = All-head (λ b. b < 256) b bs h
read_small (b ∷ bs) (suc i) h = read_small bs i (All-tail (λ b. b < 256) b bs h)

-- ranges of bytes
abbrev HasBytes : Range → Type 0
HasBytes r = AreBytes r.bytes

range_bytes : (ranges : List Range) (a b : ℕ) → All HasBytes ranges → byte_of ranges a ≡ Some b → b < 256
unfolding byte_of
range_bytes [] a b h e = absurd (cc)
range_bytes (r ∷ rs) a b h e = at (range_bytes rs a b (All-tail HasBytes r rs h)) (covers a r) e
  where
    at : (option_map (λ r. slice_index r.bytes (a - r.start)) (range_at rs a) ≡ Some b → b < 256) → (t : Bool)
        → option_map (λ r. slice_index r.bytes (a - r.start)) (cond t (Some r) (range_at rs a)) ≡ Some b → b < 256
    at ih true e =
        let is : slice_index r.bytes (a - r.start) ≡ b = cc in
        let small : slice_index r.bytes (a - r.start) < 256 =
        read_small r.bytes (a - r.start) (All-head HasBytes r rs h) in
        omega (arith, is, small)
    at ih false e = ih e

segment_bytes : (file : List ℕ) (s : Segment) → AreBytes file → HasBytes (range_of file s)
segment_bytes file s h =
    All-append (λ b. b < 256) (take s.file_size (drop s.offset file)) (replicate (s.mem_size - s.file_size) 0)
    (All-take (λ b. b < 256) s.file_size (drop s.offset file) (All-drop (λ b. b < 256) s.offset file h))
    (zeros (s.mem_size - s.file_size))

stack_bytes : All HasBytes (stack ∷ [])
unfolding stack
stack_bytes = All-cons HasBytes stack [] (zeros stack_size) (All-nil HasBytes)

all_bytes : (file : List ℕ) (segments : List Segment) → AreBytes file
    → All HasBytes (map (range_of file) (filter is_loaded segments) ++ stack ∷ [])
all_bytes file [] h = stack_bytes
all_bytes file (s ∷ ss) h = at (all_bytes file ss h) (is_loaded s)
  where
    at : All HasBytes (map (range_of file) (filter is_loaded ss) ++ stack ∷ []) → (t : Bool)
        → All HasBytes (map (range_of file) (cond t (s ∷ filter is_loaded ss) (filter is_loaded ss)) ++ stack ∷ [])
    at ih true = All-cons HasBytes (range_of file s) (map (range_of file) (filter is_loaded ss) ++ stack ∷ [])
        (segment_bytes file s h) ih
    at ih false = ih

pub memory_bytes : (file : List ℕ) (a b : ℕ) → AreBytes file → byte_of (memory_of file) a ≡ Some b → b < 256
unfolding memory_of
memory_bytes file a b h e = range_bytes (map (range_of file) (filter is_loaded (segments_of file)) ++ stack ∷ []) a b
    (all_bytes file (segments_of file) h) e
