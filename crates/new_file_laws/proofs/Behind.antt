-- The ranges behind the image of a new file: those of the added segments, one above the other, and the stack.
use Rattle.std.proofs.Common.{◌≡◌, ◌⊎◌, inl, inr, ℕ, ◌+◌, ◌-◌, ◌<◌, ◌≤◌, ◌&&◌, Bool, true, false, List, [], ◌∷◌, length}
use Rattle.std.proofs.Common.{refl, ap, ◌∙◌, arith, length-append}
use Rattle.std.specs.Prelude.{Some, nat_le, nat_lt, replicate}
use Rattle.std.proofs.lemmas.Bool.Decides.{nat_tests}
use Rattle.std.proofs.lemmas.List.{length-replicate}
use Rattle.elf_spec.specs.declared.NewSegment.{NewSegment}
use Rattle.site_spec.specs.Places.{text_at}
use Rattle.new_file_spec.specs.Rewritten.{text_segment}
use Rattle.machine_spec.specs.Memory.{Range, covers, range_at, stack}
use Rattle.flat_spec.specs.Stores.{allows_store}
use Rattle.elf_write.specs.NewMemory.{range_added, ranges_behind}

abbrev pub OnStack : ℕ → Type 0
OnStack a = (0x7FF00000 ≤ a) × (a < 0x80000000)

-- the stack by itself
zeros_there : (start n : ℕ) (w x : Bool) (a : ℕ) → start ≤ a → a < start + n
    → range_at (record { start = start; writable = w; executable = x; bytes = replicate n 0 } ∷ []) a
    ≡ Some (record { start = start; writable = w; executable = x; bytes = replicate n 0 })
zeros_there start n w x a low high =
    let long : length {A = ℕ} (replicate n 0) ≡ n = length-replicate {A = ℕ} n 0 in
    let inside : (nat_le start a && nat_lt a (start + length {A = ℕ} (replicate n 0))) ≡ true =
    rw long (grind (arith, nat_tests)) in
    rw inside refl

pub stack_there : (a : ℕ) → OnStack a → range_at (stack ∷ []) a ≡ Some stack
unfolding stack
stack_there a on = zeros_there 0x7FF00000 0x100000 true false a on.0 (omega (arith, on.1))

pub stack_writable : allows_store (Some stack) ≡ true
unfolding stack
stack_writable = refl

-- an added segment takes as much memory as it says
length-added : (s : NewSegment) → length s.bytes ≤ s.mem_size → length (range_added s).bytes ≡ s.mem_size
length-added s long =
    let pad : length {A = ℕ} (replicate (s.mem_size - length s.bytes) 0) ≡ s.mem_size - length s.bytes =
    length-replicate {A = ℕ} (s.mem_size - length s.bytes) 0 in
    omega (arith, length-append s.bytes (replicate (s.mem_size - length s.bytes) 0), pad, long)

covers_added : (s : NewSegment) (a : ℕ) → length s.bytes ≤ s.mem_size
    → covers a (range_added s) ≡ (nat_le s.vaddr a && nat_lt a (s.vaddr + s.mem_size))
covers_added s a long = ap (λ n. nat_le s.vaddr a && nat_lt a (s.vaddr + n)) (length-added s long)

first_covers : (r : Range) (rs : List Range) (a : ℕ) → covers a r ≡ true → range_at (r ∷ rs) a ≡ Some r
first_covers r rs a e = rw e refl

first_misses : (r : Range) (rs : List Range) (a : ℕ) → covers a r ≡ false → range_at (r ∷ rs) a ≡ range_at rs a
first_misses r rs a e = rw e refl

with_memory : (s : NewSegment) (ss : List NewSegment) → nat_lt 0 s.mem_size ≡ true
    → ranges_behind (s ∷ ss) ≡ range_added s ∷ ranges_behind ss
with_memory s ss e = rw e refl

without_memory : (s : NewSegment) (ss : List NewSegment) → nat_lt 0 s.mem_size ≡ false
    → ranges_behind (s ∷ ss) ≡ ranges_behind ss
without_memory s ss e = rw e refl

-- an address of the first is found there
pub behind_in : (s : NewSegment) (ss : List NewSegment) (a : ℕ) → length s.bytes ≤ s.mem_size → s.vaddr ≤ a
    → a < s.vaddr + s.mem_size → range_at (ranges_behind (s ∷ ss)) a ≡ Some (range_added s)
behind_in s ss a long low high =
    let room : 0 < s.mem_size = omega (arith, low, high) in
    let some : nat_lt 0 s.mem_size ≡ true = grind (arith, nat_tests) in
    let inside : (nat_le s.vaddr a && nat_lt a (s.vaddr + s.mem_size)) ≡ true = grind (arith, nat_tests) in
    ap (λ m. range_at m a) (with_memory s ss some)
    ∙ first_covers (range_added s) (ranges_behind ss) a (covers_added s a long ∙ inside)

-- and one beside it among the others
pub behind_past : (s : NewSegment) (ss : List NewSegment) (a : ℕ) → length s.bytes ≤ s.mem_size
    → (a < s.vaddr) ⊎ (s.vaddr + s.mem_size ≤ a)
    → range_at (ranges_behind (s ∷ ss)) a ≡ range_at (ranges_behind ss) a
behind_past s ss a long beside = by_size (nat_lt 0 s.mem_size) refl
  where
    below : (v n a : ℕ) → a < v → (nat_le v a && nat_lt a (v + n)) ≡ false
    below v n a l = let q : nat_le v a ≡ false = grind (arith, nat_tests) in rw q refl

    missed : (b : Bool) (end a : ℕ) → end ≤ a → (b && nat_lt a end) ≡ false
    missed true end a h = grind (arith, nat_tests)
    missed false end a h = refl

    outside : (a < s.vaddr) ⊎ (s.vaddr + s.mem_size ≤ a)
        → (nat_le s.vaddr a && nat_lt a (s.vaddr + s.mem_size)) ≡ false
    outside (inl l) = below s.vaddr s.mem_size a l
    outside (inr h) = missed (nat_le s.vaddr a) (s.vaddr + s.mem_size) a h

    by_size : (b : Bool) → nat_lt 0 s.mem_size ≡ b
        → range_at (ranges_behind (s ∷ ss)) a ≡ range_at (ranges_behind ss) a
    by_size true e =
        ap (λ m. range_at m a) (with_memory s ss e)
        ∙ first_misses (range_added s) (ranges_behind ss) a (covers_added s a long ∙ outside beside)
    by_size false e = ap (λ m. range_at m a) (without_memory s ss e)

-- the range of a new text
abbrev pub text_range : ℕ → List ℕ → Range
text_range at bytes = range_added (text_segment at bytes)

-- a new text is found among added segments, and so is the stack behind them
pub record HasText (file text : List ℕ) (segments : List NewSegment) : Type 0 where
  pub there : (a : ℕ) → text_at file ≤ a → a < text_at file + length text
      → range_at (ranges_behind segments) a ≡ Some (text_range (text_at file) text)
  pub stack : (a : ℕ) → OnStack a → range_at (ranges_behind segments) a ≡ Some stack
