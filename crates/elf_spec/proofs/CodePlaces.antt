-- Code words and their places.
use Rattle.std.proofs.Common.{◌≡◌, ℕ, List, true, false, Option, Some, None, is_some, refl}
use Rattle.elf_spec.specs.Code.{code_place, code_word}

-- the place of a code word
pub place_of : (file : List ℕ) (a : ℕ) → is_some (code_word file a) ≡ true → (place : ℕ)
    × (code_place file a ≡ Some place)
place_of file a h = decide (code_place file a) refl
  where
    decide : (o : Option ℕ) → code_place file a ≡ o → (place : ℕ) × (code_place file a ≡ Some place)
    decide (Some place) e = (place, e)
    decide None e = absurd (let q : false ≡ true = rw e at h in cc)
