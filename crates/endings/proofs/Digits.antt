-- The eight hexadecimal digits of a number: each is one byte of a text.
use Rattle.std.proofs.Common.{◌≡◌, ◌<◌, ◌+◌, ℕ, zero, suc, List, [], ◌∷◌, ◌++◌, take, length, slice_index_or, refl, ap}
use Rattle.std.proofs.Common.{sym, ◌∙◌, append_assoc, arith}
use Rattle.std.proofs.Math.Seq.{take-suc}
use Rattle.std.proofs.lemmas.Bool.Decides.{nat_tests}
use Rattle.text_fields.specs.Writing.{hex_digit, hex8}

pub eight_digits : (n : ℕ) → length (hex8 n) ≡ 8
unfolding hex8
eight_digits n = refl

digit_is_ascii : (d : ℕ) → d < 16 → hex_digit d < 128
digit_is_ascii d h = grind (arith, nat_tests)

pub digits_are_ascii : (n k : ℕ) → k < 8 → slice_index_or (hex8 n) k 0 < 128
unfolding hex8
digits_are_ascii n zero h = digit_is_ascii _ (omega arith)
digits_are_ascii n (suc zero) h = digit_is_ascii _ (omega arith)
digits_are_ascii n (suc (suc zero)) h = digit_is_ascii _ (omega arith)
digits_are_ascii n (suc (suc (suc zero))) h = digit_is_ascii _ (omega arith)
digits_are_ascii n (suc (suc (suc (suc zero)))) h = digit_is_ascii _ (omega arith)
digits_are_ascii n (suc (suc (suc (suc (suc zero))))) h = digit_is_ascii _ (omega arith)
digits_are_ascii n (suc (suc (suc (suc (suc (suc zero)))))) h = digit_is_ascii _ (omega arith)
digits_are_ascii n (suc (suc (suc (suc (suc (suc (suc zero))))))) h = digit_is_ascii _ (omega arith)
digits_are_ascii n (suc (suc (suc (suc (suc (suc (suc (suc k)))))))) h = absurd (omega arith)

-- one element more of a list behind another
pub one_more : (xs ys : List ℕ) (i : ℕ) → i < length ys
    → (xs ++ take i ys) ++ slice_index_or ys i 0 ∷ [] ≡ xs ++ take (i + 1) ys
one_more xs ys i short =
    append_assoc xs (take i ys) (slice_index_or ys i 0 ∷ []) ∙ ap (λ x. xs ++ x) (sym (take-suc ys i 0 short))
    ∙ ap (λ k. xs ++ take k ys) (let next : suc i ≡ i + 1 = omega arith in next)
