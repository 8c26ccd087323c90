-- Words of one stretch or two: where they may be read and written, and what is read after a store.
use Rattle.std.proofs.Common.{◌≡◌, ◌≢◌, ℕ, ◌%◌, ◌<◌, ◌≤◌, ◌⊎◌, Bool, true, false, ◌&&◌, ◌||◌, refl, arith, inl, inr}
use Rattle.std.specs.Prelude.{◌==◌, nat_eq, nat_le, nat_lt}
use Rattle.std.proofs.lemmas.Bool.Decides.{nat_tests}
use Rattle.frag_code.specs.Frames.{HasMore}
use Rattle.frag_code.specs.Meaning.{put, is_allowed}
use Rattle.frag_rules.specs.Rights.{in_span, one_span, two_spans}

pub in_span_yes : (lo hi a : ℕ) → lo ≤ a → a < hi → in_span lo hi a ≡ true
in_span_yes lo hi a l h =
    let first : nat_le lo a ≡ true = grind (arith, nat_tests) in
    let second : nat_lt a hi ≡ true = grind (arith, nat_tests) in
    rw (first, second) refl

pub in_span_no : (lo hi a : ℕ) → (a < lo) ⊎ (hi ≤ a) → in_span lo hi a ≡ false
in_span_no lo hi a (inl l) = let first : nat_le lo a ≡ false = grind (arith, nat_tests) in rw first refl
in_span_no lo hi a (inr h) = let second : nat_lt a hi ≡ false = grind (arith, nat_tests) in by (nat_le lo a)
  where
    by : (t : Bool) → (t && nat_lt a hi) ≡ false
    by true = grind (arith, nat_tests)
    by false = refl

-- an access outside
pub outside : (lo hi a : ℕ) → (a < lo) ⊎ (hi ≤ a) → is_allowed (one_span lo hi).writes a ≡ false
outside lo hi a h = let no : in_span lo hi a ≡ false = in_span_no lo hi a h in by (a % 4 == 0)
  where
    no : in_span lo hi a ≡ false
    no = in_span_no lo hi a h

    by : (t : Bool) → (t && in_span lo hi a) ≡ false
    by true = no
    by false = refl

-- one of two stretches
pub first_of_two : (lo hi from to : ℕ) → HasMore (one_span lo hi) (two_spans lo hi from to)
first_of_two lo hi from to = record { reads = λ a h. by a h; writes = λ a h. by a h }
  where
    by : (a : ℕ) → in_span lo hi a ≡ true → (in_span lo hi a || in_span from to a) ≡ true
    by a h = rw h refl

pub second_of_two : (lo hi from to : ℕ) → HasMore (one_span from to) (two_spans lo hi from to)
second_of_two lo hi from to =
    record { reads = λ a h. by a h (in_span lo hi a); writes = λ a h. by a h (in_span lo hi a) }
  where
    by : (a : ℕ) → in_span from to a ≡ true → (t : Bool) → (t || in_span from to a) ≡ true
    by a h true = refl
    by a h false = h

-- a word that was written, and one that wasn't
pub put_here : (f : ℕ → ℕ) (a v k : ℕ) → k ≡ a → put f a v k ≡ v
put_here f a v k e = let t : nat_eq k a ≡ true = grind (arith, nat_tests) in rw t refl

pub put_there : (f : ℕ → ℕ) (a v k : ℕ) → k ≢ a → put f a v k ≡ f k
put_there f a v k n = let t : nat_eq k a ≡ false = grind (arith, nat_tests) in rw t refl
