-- Told bytes that grow piece by piece.
use Rattle.std.proofs.Common.{◌≡◌, ℕ, ◌+◌, ◌-◌, List, ◌++◌, length, take, drop, Option, None, Some, refl, sym, ◌∙◌, ap}
use Rattle.std.proofs.Common.{append_assoc}
use Rattle.std.proofs.lemmas.List.{take_rest}
use Rattle.std.proofs.Math.Seq.{take-add}
use Rattle.std.specs.Io.KnownBytes.{append_known}
use Rattle.halo_outside.specs.Seen.{Appends}

-- the first `count` bytes of those after the first `at`
take_more : (at count : ℕ) (bytes : List ℕ)
    → take at bytes ++ take count (take (length bytes - at) (drop at bytes))
    ≡ take (at + count) bytes
take_more at count bytes =
    ap (λ rest. take at bytes ++ take count rest) (take_rest bytes at)
    ∙ sym (take-add at count bytes)

-- two texts, one after the other
append_known-append : (told : Option (List ℕ)) (xs ys : List ℕ)
    → append_known (append_known told xs) ys ≡ append_known told (xs ++ ys)
append_known-append None xs ys = refl
append_known-append (Some held) xs ys = ap (λ bytes. Some bytes) (append_assoc held xs ys)

-- the next piece of a text, after the first `at` bytes of it
pub appends_next : (a b c : Option (List ℕ)) (at count : ℕ) (bytes : List ℕ)
    → Appends a b (take at bytes)
    → Appends b c (take count (take (length bytes - at) (drop at bytes)))
    → Appends a c (take (at + count) bytes)
appends_next a b c at count bytes before next =
    let piece : List ℕ = take count (take (length bytes - at) (drop at bytes)) in
    next ∙ ap (λ told. append_known told piece) before
    ∙ append_known-append a _ _ ∙ ap (λ text. append_known a text) (take_more at count bytes)
