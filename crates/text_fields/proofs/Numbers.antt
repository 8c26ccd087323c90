-- Decimal numbers: what is read is what std's `decimal` writes.
use Rattle.std.proofs.Common.{◌≡◌, ◌==◌, ◌&&◌, ◌||◌, ◌<◌, ◌≤◌, ◌+◌, ◌-◌, ◌*◌, ◌^◌, ℕ, zero, suc, Bool, true, false}
use Rattle.std.proofs.Common.{cond, nat_lt, nat_le, List, [], ◌∷◌, ◌++◌, length, get_or, Option, Some, None, refl, ap}
use Rattle.std.proofs.Common.{sym, arith, rules}
use Rattle.std.specs.Str.{all_ascii_digits}
use Rattle.std.specs.Char.{is_ascii_digit}
use Rattle.std.specs.Fmt.{decimal}
use Rattle.std.proofs.lemmas.Fmt.{decimal_digit, decimal_nonempty, first_decimal, digits_decimal, digits_value-decimal}
use Rattle.std.proofs.lemmas.Fmt.{decimal-digits_value}
use Rattle.std.proofs.lemmas.Option.{some_pair_parts}
use Rattle.std.proofs.lemmas.Str.Parse.{IsNumeralModel, numerals_by_fold, tells_all_ascii_digits}
use Rattle.std.proofs.lemmas.Bool.Decides.{nat_tests}
use Rattle.text_fields.specs.Reading.{cut_at, number_on, number_of, number_at}
use Rattle.text_fields.proofs.Steps.{bound, and_parts}
use Rattle.text_fields.proofs.Fronts.{cut_takes, cut_again}

-- the number written by the digits of n and these
abbrev read_on : ℕ → List ℕ → ℕ
read_on n [] = n
read_on n (c ∷ cs) = read_on (10 * n + (c - 48)) cs

own : IsNumeralModel (λ ds. all_ascii_digits ds ≡ true) (read_on 0)
own = numerals_by_fold _ tells_all_ascii_digits read_on (search rules)

grows : (n : ℕ) (ds : List ℕ) → n ≤ read_on n ds
grows n [] = omega arith
grows n (c ∷ cs) = omega (arith, grows (10 * n + (c - 48)) cs)

under : (a b : ℕ) → nat_le a b ≡ true → a ≤ b
under a b e = grind (arith, nat_tests)

is_under : (a b : ℕ) → a ≤ b → nat_le a b ≡ true
is_under a b h = grind (arith, nat_tests)

-- a test before a step has passed, if the step found something
passed : {A : Type 0} (t : Bool) (o : Option A) (y : A) → cond t o None ≡ Some y → (t ≡ true) × (o ≡ Some y)
passed true o y e = (refl, e)
passed false o y e = absurd cc

on_takes : (max n v : ℕ) (ds : List ℕ) → n ≤ max → number_on max n ds ≡ Some v
    → (all_ascii_digits ds ≡ true) × (v ≡ read_on n ds) × (v ≤ max)
on_takes max n v [] low found = let same : n ≡ v = cc in (refl, sym same, omega arith)
on_takes max n v (c ∷ cs) low found =
    let p = passed (is_ascii_digit c && nat_le (10 * n + (c - 48)) max) (number_on max (10 * n + (c - 48)) cs) v
    found in
    let both = and_parts (is_ascii_digit c) (nat_le (10 * n + (c - 48)) max) p.0 in
    let more = on_takes max (10 * n + (c - 48)) v cs (under _ _ both.1) p.1 in
    (rw (both.0, more.0) refl, more.1, more.2)

on_again : (max n : ℕ) (ds : List ℕ) → all_ascii_digits ds ≡ true → read_on n ds ≤ max
    → number_on max n ds ≡ Some (read_on n ds)
on_again max n [] digits low = refl
on_again max n (c ∷ cs) digits low =
    let both = and_parts (is_ascii_digit c) (all_ascii_digits cs) digits in
    let fits : 10 * n + (c - 48) ≤ max = omega (arith, grows (10 * n + (c - 48)) cs) in
    rw (both.0, is_under _ _ fits, on_again max (10 * n + (c - 48)) cs both.1 low) refl

-- a word that isn't refused at once has a digit, and no zero before others
good_front : (len first : ℕ) → ((len == 0) || (nat_lt 1 len && (first == 48))) ≡ false
    → (0 < len) × (first ≡ 48 → len ≡ 1)
good_front len first e = grind (arith, nat_tests)

is_good_front : (len first : ℕ) → 0 < len → (first ≡ 48 → len ≡ 1)
    → ((len == 0) || (nat_lt 1 len && (first == 48))) ≡ false
is_good_front len first some alone = grind (arith, nat_tests)

-- a test before a step has failed, if the step found something
not_refused : {A : Type 0} (t : Bool) (o : Option A) (y : A) → cond t None o ≡ Some y → (t ≡ false) × (o ≡ Some y)
not_refused true o y e = absurd cc
not_refused false o y e = (refl, e)

pub of_takes : (max v : ℕ) (word : List ℕ) → max < 2 ^ 59 → number_of max word ≡ Some v
    → (v ≤ max) × (word ≡ decimal v) × (all_ascii_digits word ≡ true)
unfolding number_of
of_takes max v word small found =
    let p = not_refused ((length word == 0) || (nat_lt 1 (length word) && (get_or word 0 0 == 48)))
    (number_on max 0 word) v found in
    let front = good_front (length word) (get_or word 0 0) p.0 in
    let read = on_takes max 0 v word (omega arith) p.1 in
    let same : decimal (read_on 0 word) ≡ word =
    decimal-digits_value own word read.0 front.0 front.1 (omega (arith, read.1, read.2)) in
    (read.2, rw (read.1) (sym same), read.0)

decimal_front : (n : ℕ) → n < 2 ^ 64 → get_or (decimal n) 0 0 ≡ 48 → length (decimal n) ≡ 1
decimal_front zero small first = ap length (decimal_digit 0 (omega arith))
decimal_front (suc n) small first = absurd (omega (arith, first_decimal (suc n) (omega arith) small))

pub of_again : (max v : ℕ) → v ≤ max → max < 2 ^ 59 → number_of max (decimal v) ≡ Some v
unfolding number_of
of_again max v low small =
    let tiny : v < 2 ^ 64 = omega arith in
    let is : read_on 0 (decimal v) ≡ v = digits_value-decimal own v tiny in
    let digits : all_ascii_digits (decimal v) ≡ true = digits_decimal own v tiny in
    let front = is_good_front (length (decimal v)) (get_or (decimal v) 0 0) (decimal_nonempty v tiny)
    (decimal_front v tiny) in
    let on : number_on max 0 (decimal v) ≡ Some (read_on 0 (decimal v)) =
    on_again max 0 (decimal v) digits (rw is low) in
    rw (front, on, is) refl

pub decimal_digits : (v : ℕ) → v < 2 ^ 64 → all_ascii_digits (decimal v) ≡ true
decimal_digits v small = digits_decimal own v small

-- a number that is found is in range, and is written there in decimal before the end byte
pub number_takes : (end max v : ℕ) (bytes rest : List ℕ) → max < 2 ^ 59 → number_at end max bytes ≡ Some (v, rest)
    → (v ≤ max) × (bytes ≡ decimal v ++ (end ∷ rest))
unfolding number_at
number_takes end max v bytes rest small found =
    bound (cut_at end bytes) _ _ found (λ parts cut more.
    bound (number_of max parts.0) _ _ more (λ n is last.
    let both : (n ≡ v) × (parts.1 ≡ rest) = some_pair_parts _ _ _ _ last in
    let of = of_takes max n parts.0 small is in
    let whole : bytes ≡ parts.0 ++ (end ∷ parts.1) = cut_takes end bytes parts.0 parts.1 cut in
    (omega (arith, of.0, both.0), cc (whole, of.1, both.0, both.1))))

-- a number in range that is written in decimal before the end byte is found
pub number_again : (end max v : ℕ) (rest : List ℕ) → end < 48 → v ≤ max → max < 2 ^ 59
    → number_at end max (decimal v ++ (end ∷ rest)) ≡ Some (v, rest)
unfolding number_at
number_again end max v rest low fits small =
    let tiny : v < 2 ^ 64 = omega arith in
    rw (cut_again end (decimal v) rest (digits_decimal own v tiny) low, of_again max v fits small) refl
