-- The laws of fields that are read, which the crate of fields gives, and what follows from them at once.
use Rattle.std.proofs.Common.{◌≡◌, ◌↔◌, ◌<◌, ◌≤◌, ◌^◌, ℕ, List, ◌∷◌, ◌++◌, Option, Some, None, refl}
use Rattle.std.specs.Fmt.{decimal}
use Rattle.std.proofs.lemmas.Option.{option_and_then_some}
use Rattle.text_fields.specs.Reading.{◌>>=◌, after_front, number_at, leading_at, GoesOnWithNoDigit, hex_at}
use Rattle.text_fields.specs.Writing.{hex8}
use Rattle.profile_text.specs.Reading.{or_else}

-- fields are read exactly where they are written
pub record TextLaws : Type 0 where
  pub field : (end max n : ℕ) (bytes rest : List ℕ) → end < 48 → max < 2 ^ 59
      → (number_at end max bytes ≡ Some (n, rest)) ↔ ((n ≤ max) × (bytes ≡ decimal n ++ (end ∷ rest)))
  pub leading : (max n : ℕ) (bytes rest : List ℕ) → max < 2 ^ 59
      → (leading_at max bytes ≡ Some (n, rest)) ↔ ((n ≤ max) × (bytes ≡ decimal n ++ rest) × GoesOnWithNoDigit rest)
  pub hexadecimal : (n : ℕ) (bytes rest : List ℕ)
      → (hex_at bytes ≡ Some (n, rest)) ↔ ((n < 2 ^ 32) × (bytes ≡ hex8 n ++ rest))
  pub front : (front bytes rest : List ℕ) → (after_front front bytes ≡ Some rest) ↔ (bytes ≡ front ++ rest)

-- both steps found something, if the two together did
pub bound : {A B P : Type 0} (r : Option A) (f : A → Option B) (y : B) → (r >>= f) ≡ Some y
    → ((x : A) → r ≡ Some x → f x ≡ Some y → P) → P
bound r f y e k = option_and_then_some f r y e k

-- which choice found something
pub chosen : {A P : Type 0} (o : Option (List ℕ)) (fields : List ℕ → Option A) (other : Option A) (y : A)
    → or_else o fields other ≡ Some y → ((rest : List ℕ) → o ≡ Some rest → fields rest ≡ Some y → P)
    → (other ≡ Some y → P) → P
chosen None fields other y e here there = there e
chosen (Some rest) fields other y e here there = here rest refl e

-- nothing is found where the first bytes differ
pub front_fails : (laws : TextLaws) (f g : ℕ) (front bytes : List ℕ) → (g ≡ f → ⊥)
    → after_front (f ∷ front) (g ∷ bytes) ≡ None
front_fails laws f g front bytes other = at (after_front (f ∷ front) (g ∷ bytes)) refl
  where
    at : (o : Option (List ℕ)) → after_front (f ∷ front) (g ∷ bytes) ≡ o → o ≡ None
    at None is = refl
    at (Some rest) is =
        let whole : g ∷ bytes ≡ (f ∷ front) ++ rest = (laws.front (f ∷ front) (g ∷ bytes) rest).0 is in
        let heads : g ≡ f = cc in
        absurd (other heads)

-- a front that stands there is found
pub front_again : (laws : TextLaws) (front rest : List ℕ) → after_front front (front ++ rest) ≡ Some rest
front_again laws front rest = (laws.front front (front ++ rest) rest).1 refl
