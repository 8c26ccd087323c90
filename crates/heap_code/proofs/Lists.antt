-- Bytes of words one after the other.
use Rattle.std.proofs.Common.{◌≡◌, ℕ, ◌+◌, ◌*◌, List, [], ◌∷◌, ◌++◌, length, length-append, refl, ap, sym, ◌∙◌}
use Rattle.std.proofs.Common.{append_assoc, arith}
use Rattle.machine_spec.specs.Widths.{low_bytes}
use Rattle.heap_code.specs.Words.{bytes_of}

pub bytes_append : (xs ys : List ℕ) → bytes_of (xs ++ ys) ≡ bytes_of xs ++ bytes_of ys
bytes_append [] ys = refl
bytes_append (x ∷ xs) ys = ap (λ bs. low_bytes 4 x ++ bs) (bytes_append xs ys)
    ∙ sym (append_assoc (low_bytes 4 x) (bytes_of xs) (bytes_of ys))

-- each word has four bytes
pub length-bytes : (words : List ℕ) → length (bytes_of words) ≡ 4 * length words
length-bytes [] = refl
length-bytes (w ∷ ws) =
    let rest : length (bytes_of ws) ≡ 4 * length ws = length-bytes ws in
    length-append (low_bytes 4 w) (bytes_of ws) ∙ omega (arith, rest)

-- four pieces are written, and what is left is behind them
pub four_more : (b0 b1 b2 b3 b4 x y z u rest all : List ℕ) → b1 ≡ b0 ++ x → b2 ≡ b1 ++ y → b3 ≡ b2 ++ z
    → b4 ≡ b3 ++ u → all ≡ x ++ (y ++ (z ++ (u ++ rest))) → b4 ++ rest ≡ b0 ++ all
four_more b0 b1 b2 b3 b4 x y z u rest all e1 e2 e3 e4 e = rw (e4, e3, e2, e1, e) (simp append_assoc)

pub length_behind : (w0 w1 a : List ℕ) → w1 ≡ w0 ++ a → length w1 ≡ length w0 + length a
length_behind w0 w1 a e = ap length e ∙ length-append w0 a
