-- Tables of equal records.
use Rattle.std.proofs.Common.{◌≡◌, ℕ, zero, suc, ◌+◌, ◌*◌, [], ◌∷◌, ◌++◌, ap, ◌∙◌, arith}
use Rattle.elf_spec.specs.Records.{entries}

-- a table's first record
pub entries_first : {A : Type 0} (f : ℕ → A) (size at n : ℕ)
    → entries f size at (suc n) ≡ f at ∷ entries f size (at + size) n
entries_first f size at zero = let e : at + size * 0 ≡ at = omega arith in ap (λ i. f i ∷ []) e
entries_first f size at (suc n) =
    let e : at + size * suc n ≡ at + size + size * n = omega arith in
    ap (λ xs. xs ++ f (at + size * suc n) ∷ []) (entries_first f size at n)
    ∙ ap (λ i. f at ∷ (entries f size (at + size) n ++ f i ∷ [])) e
