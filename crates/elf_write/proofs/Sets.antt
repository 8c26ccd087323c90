-- A number put into a list byte by byte is its bytes in the place of those that stood there.
use Rattle.std.proofs.Common.{◌≡◌, ℕ, ◌+◌, ◌/◌, ◌%◌, ◌^◌, ◌<◌, ◌≤◌, List, [], ◌∷◌, ◌++◌, length, get_or, take, drop}
use Rattle.std.proofs.Common.{set, refl, sym, ap, ◌∙◌, subst, append_assoc, length-append, arith}
use Rattle.std.proofs.lemmas.List.{append-nil, drop_more, length-take-le, set_at, take-append-drop}
use Rattle.byteorder.specs.Endian.{little_bytes}
use Rattle.elf_spec.specs.NewFile.{put_half, put_word}

-- one more byte behind those that were put
set_next : (bs xs : List ℕ) (at k a : ℕ) → at + k < length bs → length xs ≡ k
    → set ((take at bs ++ xs) ++ drop (at + k) bs) (at + k) a ≡ (take at bs ++ (xs ++ a ∷ [])) ++ drop (at + k + 1) bs
set_next bs xs at k a h l =
    let front : length (take at bs ++ xs) ≡ at + k = length-append (take at bs) xs
    ∙ (let t : length (take at bs) ≡ at = length-take-le at bs (omega arith) in omega arith) in
    let cut : drop (at + k) bs ≡ get_or bs (at + k) 0 ∷ drop (at + k + 1) bs = drop_more bs (at + k) 0 h in
    ap (λ ys. set ((take at bs ++ xs) ++ ys) (at + k) a) cut
    ∙ (set_at (take at bs ++ xs) (get_or bs (at + k) 0) (drop (at + k + 1) bs) a (at + k) front ∙ simp append_assoc)

set_first : (bs : List ℕ) (at a : ℕ) → at < length bs → set bs at a ≡ (take at bs ++ a ∷ []) ++ drop (at + 1) bs
set_first bs at a h =
    let z : at + 0 ≡ at = omega arith in
    let whole : (take at bs ++ []) ++ drop at bs ≡ bs = ap (λ ys. ys ++ drop at bs) (append-nil (take at bs))
    ∙ take-append-drop at bs in
    ap (λ ys. set ys at a) (sym whole)
    ∙ subst (λ n. set ((take at bs ++ []) ++ drop n bs) n a ≡ (take at bs ++ a ∷ []) ++ drop (n + 1) bs) z
    (set_next bs [] at 0 a (omega arith) refl)

two : (bs : List ℕ) (at a b : ℕ) → at + 2 ≤ length bs → set (set bs at a) (at + 1) b ≡ (take at bs ++ (a ∷ b ∷ []))
    ++ drop (at + 2) bs
two bs at a b h =
    let z : at + 1 + 1 ≡ at + 2 = omega arith in
    ap (λ ys. set ys (at + 1) b) (set_first bs at a (omega arith))
    ∙ subst (λ n. set ((take at bs ++ a ∷ []) ++ drop (at + 1) bs) (at + 1) b ≡ (take at bs ++ (a ∷ b ∷ []))
    ++ drop n bs) z (set_next bs (a ∷ []) at 1 b (omega arith) refl)

four : (bs : List ℕ) (at a b c d : ℕ) → at + 4 ≤ length bs → set (set (set (set bs at a) (at + 1) b) (at + 2) c)
    (at + 3) d ≡ (take at bs ++ (a ∷ b ∷ c ∷ d ∷ [])) ++ drop (at + 4) bs
four bs at a b c d h =
    let y : at + 2 + 1 ≡ at + 3 = omega arith in
    let z : at + 3 + 1 ≡ at + 4 = omega arith in
    let third : set ((take at bs ++ (a ∷ b ∷ [])) ++ drop (at + 2) bs) (at + 2) c ≡ (take at bs ++ (a ∷ b ∷ c ∷ []))
    ++ drop (at + 3) bs =
    subst (λ n. set ((take at bs ++ (a ∷ b ∷ [])) ++ drop (at + 2) bs) (at + 2) c ≡ (take at bs ++ (a ∷ b ∷ c ∷ []))
    ++ drop n bs) y (set_next bs (a ∷ b ∷ []) at 2 c (omega arith) refl) in
    let fourth : set ((take at bs ++ (a ∷ b ∷ c ∷ [])) ++ drop (at + 3) bs) (at + 3) d
    ≡ (take at bs ++ (a ∷ b ∷ c ∷ d ∷ [])) ++ drop (at + 4) bs =
    subst (λ n. set ((take at bs ++ (a ∷ b ∷ c ∷ [])) ++ drop (at + 3) bs) (at + 3) d
    ≡ (take at bs ++ (a ∷ b ∷ c ∷ d ∷ [])) ++ drop n bs) z
    (set_next bs (a ∷ b ∷ c ∷ []) at 3 d (omega arith) refl) in
    ap (λ ys. set (set ys (at + 2) c) (at + 3) d) (two bs at a b (omega arith))
    ∙ (ap (λ ys. set ys (at + 3) d) third ∙ fourth)

pub put_half-parts : (at n : ℕ) (bs : List ℕ) → at + 2 ≤ length bs → n < 2 ^ 16
    → put_half at n bs ≡ (take at bs ++ little_bytes 2 n) ++ drop (at + 2) bs
unfolding put_half
put_half-parts at n bs h l =
    let high : n / 256 ≡ n / 256 % 256 = omega arith in
    two bs at (n % 256) (n / 256) h ∙ ap (λ x. (take at bs ++ (n % 256 ∷ x ∷ [])) ++ drop (at + 2) bs) high

pub put_word-parts : (at n : ℕ) (bs : List ℕ) → at + 4 ≤ length bs → n < 2 ^ 32
    → put_word at n bs ≡ (take at bs ++ little_bytes 4 n) ++ drop (at + 4) bs
unfolding put_word
put_word-parts at n bs h l =
    let high : n / 16777216 ≡ n / 16777216 % 256 = omega arith in
    four bs at (n % 256) (n / 256 % 256) (n / 65536 % 256) (n / 16777216) h
    ∙ ap (λ x. (take at bs ++ (n % 256 ∷ n / 256 % 256 ∷ n / 65536 % 256 ∷ x ∷ [])) ++ drop (at + 4) bs) high
