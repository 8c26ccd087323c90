-- Registers that are unset one after the other.
use Rattle.std.proofs.Common.{◌≡◌, ℕ, zero, suc, ◌+◌, ◌<◌, Bool, true, false, List, [], ◌∷◌, ◌++◌, length, take, drop}
use Rattle.std.proofs.Common.{refl, ap, sym, ◌∙◌, arith}
use Rattle.std.specs.Prelude.{slice_set, if◌then◌else◌}
use Rattle.heap_spec.specs.Service.{may_change}
use Rattle.sym_value.specs.declared.Value.{Value}
use Rattle.sym_value.specs.declared.Value.TheVariants.{Unset}
use Rattle.sym_spec.specs.HeapActions.{kept_from}

-- the first r of them are done, of which the first has number i
abbrev pub done_to : (i r : ℕ) → List Value → List Value
done_to i r xs = take r (kept_from i xs) ++ drop r xs

-- the next one is done
pub done_next : (i r : ℕ) (xs : List Value) → r < length xs
    → done_to i (r + 1) xs ≡ (if may_change (i + r) then slice_set (done_to i r xs) r Unset else done_to i r xs)
done_next i r [] l = absurd (omega arith)
done_next i zero (x ∷ xs) l = let z : i + 0 ≡ i = omega arith in rw z (by_test (may_change i))
  where
    by_test : (b : Bool) → (if b then Unset else x) ∷ xs ≡ (if b then Unset ∷ xs else x ∷ xs)
    by_test true = refl
    by_test false = refl
done_next i (suc r) (x ∷ xs) l =
    let z : suc r + 1 ≡ suc (r + 1) = omega arith in
    let n : i + suc r ≡ i + 1 + r = omega arith in
    let first : Value = if may_change i then Unset else x in
    rw (z, n) (ap (λ t. first ∷ t) (done_next (i + 1) r xs (omega arith)) ∙ by_test first (may_change (i + 1 + r)))
  where
    by_test : (first : Value) (b : Bool)
        → first ∷ (if b then slice_set (done_to (i + 1) r xs) r Unset else done_to (i + 1) r xs)
        ≡ (if b then slice_set (first ∷ done_to (i + 1) r xs) (suc r) Unset else first ∷ done_to (i + 1) r xs)
    by_test first true = refl
    by_test first false = refl

pub done_one : (r : ℕ) (xs now : List Value) → r < length xs → may_change r ≡ true → now ≡ done_to 0 r xs
    → slice_set now r Unset ≡ done_to 0 (r + 1) xs
done_one r xs now l e h =
    let z : 0 + r ≡ r = omega arith in
    let n = rw (z, e) at (done_next 0 r xs l) in
    rw h (sym n)

pub done_none : (r : ℕ) (xs now : List Value) → r < length xs → may_change r ≡ false → now ≡ done_to 0 r xs
    → now ≡ done_to 0 (r + 1) xs
done_none r xs now l e h =
    let z : 0 + r ≡ r = omega arith in
    let n = rw (z, e) at (done_next 0 r xs l) in
    h ∙ sym n

-- all of them
done_whole : (i : ℕ) (xs : List Value) → done_to i (length xs) xs ≡ kept_from i xs
done_whole i [] = refl
done_whole i (x ∷ xs) = ap (λ t. (if may_change i then Unset else x) ∷ t) (done_whole (i + 1) xs)

pub done_all : (r : ℕ) (xs now : List Value) → r ≡ length xs → now ≡ done_to 0 r xs → now ≡ kept_from 0 xs
done_all r xs now e h = h ∙ ap (λ k. done_to 0 k xs) e ∙ done_whole 0 xs

pub kept_long : (i : ℕ) (xs : List Value) → length (kept_from i xs) ≡ length xs
kept_long i [] = refl
kept_long i (x ∷ xs) = ap suc (kept_long (i + 1) xs)
