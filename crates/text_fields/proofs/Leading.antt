-- The digits at the front of a text, and the number that they write.
use Rattle.std.proofs.Common.{◌≡◌, ◌<◌, ◌≤◌, ◌^◌, ℕ, Bool, true, false, cond, List, [], ◌∷◌, ◌++◌, Some, refl, ap}
use Rattle.std.proofs.Common.{arith}
use Rattle.std.specs.Str.{all_ascii_digits}
use Rattle.std.specs.Char.{is_ascii_digit}
use Rattle.std.specs.Fmt.{decimal}
use Rattle.std.proofs.lemmas.Option.{some_pair_parts}
use Rattle.text_fields.specs.Reading.{number_of, digits_at, leading_at, GoesOnWithNoDigit}
use Rattle.text_fields.proofs.Steps.{bound, and_parts}
use Rattle.text_fields.proofs.Numbers.{of_takes, of_again, decimal_digits}

-- both parts are the text, and the second begins with no digit
abbrev IsSplit : List ℕ → List ℕ × List ℕ → Type 0
IsSplit bytes parts = (bytes ≡ parts.0 ++ parts.1) × GoesOnWithNoDigit parts.1

split_step : (c : ℕ) (cs : List ℕ) (parts : List ℕ × List ℕ) (t : Bool) → is_ascii_digit c ≡ t → IsSplit cs parts
    → IsSplit (c ∷ cs) (cond t (c ∷ parts.0, parts.1) ([], c ∷ cs))
split_step c cs parts true test is = (ap (λ r. c ∷ r) is.0, is.1)
split_step c cs parts false test is = (refl, test)

split_is : (bytes : List ℕ) → IsSplit bytes (digits_at bytes)
split_is [] = (refl, tt)
split_is (c ∷ cs) = split_step c cs (digits_at cs) (is_ascii_digit c) refl (split_is cs)

split_again : (word rest : List ℕ) → all_ascii_digits word ≡ true → GoesOnWithNoDigit rest
    → digits_at (word ++ rest) ≡ (word, rest)
split_again [] [] digits apart = refl
split_again [] (c ∷ cs) digits apart = rw apart refl
split_again (d ∷ ds) rest digits apart =
    let both : (is_ascii_digit d ≡ true) × (all_ascii_digits ds ≡ true) =
    and_parts (is_ascii_digit d) (all_ascii_digits ds) digits in
    rw (both.0, split_again ds rest both.1 apart) refl

-- a number that is found in front is in range, is written there in decimal, and no digit follows
pub leading_takes : (max v : ℕ) (bytes rest : List ℕ) → max < 2 ^ 59 → leading_at max bytes ≡ Some (v, rest)
    → (v ≤ max) × (bytes ≡ decimal v ++ rest) × GoesOnWithNoDigit rest
unfolding leading_at
leading_takes max v bytes rest small found =
    bound (number_of max (digits_at bytes).0) _ _ found (λ n is last.
    let both : (n ≡ v) × ((digits_at bytes).1 ≡ rest) = some_pair_parts _ _ _ _ last in
    let of = of_takes max n (digits_at bytes).0 small is in
    let whole = split_is bytes in
    let no_digit : GoesOnWithNoDigit rest = rw (← both.1) whole.1 in
    (omega (arith, of.0, both.0), cc (whole.0, of.1, both.0, both.1), no_digit))

-- a number in range that is written in front of no digit is found
pub leading_again : (max v : ℕ) (rest : List ℕ) → v ≤ max → max < 2 ^ 59 → GoesOnWithNoDigit rest
    → leading_at max (decimal v ++ rest) ≡ Some (v, rest)
unfolding leading_at
leading_again max v rest fits small apart =
    rw (split_again (decimal v) rest (decimal_digits v (omega arith)) apart, of_again max v fits small) refl
