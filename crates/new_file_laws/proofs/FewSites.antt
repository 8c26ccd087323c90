-- Lines with bits of their own below a number are at most so many.
use Rattle.std.proofs.Common.{◌≡◌, ◌≢◌, ℕ, ◌<◌, ◌≤◌, List, [], ◌∷◌, true, length, map, get_or, eqb, sym, ◌∙◌, subst}
use Rattle.std.proofs.Common.{arith}
use Rattle.std.specs.List.{All, AllPairs, list_any}
use Rattle.std.proofs.lemmas.Bool.Decides.{Decides-eqb, nat_tests}
use Rattle.std.proofs.lemmas.List.{get_or-map, length-map}
use Rattle.std.proofs.lemmas.List.Elements.{All-map}
use Rattle.std.proofs.lemmas.List.Folds.{Any-from_list_any}
use Rattle.std.proofs.lemmas.Map.Made.{IsDistinct-from_AllPairs}
use Rattle.std.proofs.lemmas.Map.Steps.{length-le_from_distinct_below}
use Rattle.plan_core.specs.declared.types.PlanLine.{PlanLine}

abbrev bits_of : List PlanLine → List ℕ
bits_of lines = map (λ l. l.bit) lines

apart_bits : (lines : List PlanLine) → AllPairs (λ l m. l.bit ≢ m.bit) lines → AllPairs (λ x y. x ≢ y) (bits_of lines)
apart_bits [] apart = λ i j d lt low. absurd (omega arith)
apart_bits (line ∷ lines) apart = λ i j d lt low q.
    let long : length (bits_of (line ∷ lines)) ≡ length (line ∷ lines) = length-map (line ∷ lines) (λ l. l.bit) in
    let below : j < length (line ∷ lines) = omega (arith, low, long) in
    let at : get_or (bits_of (line ∷ lines)) i d ≡ (get_or (line ∷ lines) i line).bit =
    get_or-map (λ l. l.bit) (line ∷ lines) i line d (omega (arith, below, lt)) in
    let to : get_or (bits_of (line ∷ lines)) j d ≡ (get_or (line ∷ lines) j line).bit =
    get_or-map (λ l. l.bit) (line ∷ lines) j line d below in
    apart i j line lt below (sym at ∙ (q ∙ to))

pub few : (n : ℕ) (lines : List PlanLine) → All (λ l. l.bit < n) lines → AllPairs (λ l m. l.bit ≢ m.bit) lines
    → length lines ≤ n
few n lines low apart =
    let long : length (bits_of lines) ≡ length lines = length-map lines (λ l. l.bit) in
    let short : length (bits_of lines) ≤ n = length-le_from_distinct_below (bits_of lines) n
    (IsDistinct-from_AllPairs Decides-eqb (bits_of lines) (apart_bits lines apart)) below in
    omega (arith, long, short)
  where
    below : (q : ℕ) → list_any (eqb q) (bits_of lines) ≡ true → q < n
    below q h =
        let (k, x, l, is, e) = Any-from_list_any (eqb q) (bits_of lines) h in
        let same : q ≡ x = equal q x e in
        let bound : get_or (bits_of lines) k x < n = All-map (λ b. b < n) (λ l. l.bit) lines low k x l in
        subst (λ b. b < n) (is ∙ sym same) bound
      where
        equal : (a b : ℕ) → eqb a b ≡ true → a ≡ b
        equal a b e = grind (arith, nat_tests)
