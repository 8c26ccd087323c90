-- How far the first entry of some is from the last, and which entries are in reach.
use Rattle.std.proofs.Common.{◌≡◌, ◌<◌, ◌≤◌, ◌+◌, ◌-◌, ℕ, nat_le, true, false, List, [], ◌∷◌, ◌++◌, length, get_or}
use Rattle.std.proofs.Common.{cond, suc, refl, ap, ◌∙◌, arith}
use Rattle.affinity.specs.declared.entries.Entry.{Entry}
use Rattle.affinity.specs.Weights.{widths}
use Rattle.affinity.specs.Near.{span, in_reach, last_width}
use Rattle.affinity.proofs.Comparisons.{is_far, is_near, near_from}

-- one entry less, where there are more
pub span_step : (e : Entry) (es : List Entry) → 0 < span (e ∷ es) → span (e ∷ es) ≡ e.width + span es
span_step e [] some = absurd (omega arith)
span_step e (f ∷ es) some = refl

-- an entry that is too far is left out
pub far : (distance : ℕ) (e : Entry) (es : List Entry) → distance < span (e ∷ es)
    → in_reach distance (e ∷ es) ≡ in_reach distance es
far distance e es h = rw (is_far (span (e ∷ es)) distance h) refl

-- entries that are near enough all stay
pub near : (distance : ℕ) (es : List Entry) → span es ≤ distance → in_reach distance es ≡ es
near distance [] h = refl
near distance (e ∷ es) h = rw (is_near (span (e ∷ es)) distance h) refl

-- what is in reach is near enough
pub span-in_reach : (distance : ℕ) (es : List Entry) → span (in_reach distance es) ≤ distance
span-in_reach distance [] = omega arith
span-in_reach distance (e ∷ es) =
    elim (nat_le (span (e ∷ es)) distance) as (λ t. nat_le (span (e ∷ es)) distance ≡ t
    → span (cond t (e ∷ es) (in_reach distance es)) ≤ distance) [
      | true ↦ λ is. near_from (span (e ∷ es)) distance is
      | false ↦ λ is. span-in_reach distance es
    ] refl

-- the span of entries with one more is the sum of their widths
pub span_widths : (es : List Entry) (e : Entry) → span (es ++ (e ∷ [])) ≡ widths es
span_widths [] e = refl
span_widths (d ∷ []) e = refl
span_widths (d ∷ f ∷ es) e =
    let more : span (f ∷ (es ++ (e ∷ []))) ≡ widths (f ∷ es) = span_widths (f ∷ es) e in
    ap (λ n. d.width + n) more

last_width_step : (d f : Entry) (es : List Entry) → last_width (d ∷ f ∷ es) ≡ last_width (f ∷ es)
last_width_step d f es =
    let k : length (d ∷ f ∷ es) - 1 ≡ suc (length (f ∷ es) - 1) = omega arith in
    ap (λ i. (get_or (d ∷ f ∷ es) i (record { block = 0; width = 0 })).width) k

-- the sum of the widths is the span and the last width
pub widths_span : (es : List Entry) → widths es ≡ span es + last_width es
widths_span [] = refl
widths_span (d ∷ []) = omega arith
widths_span (d ∷ f ∷ es) =
    let more : widths (f ∷ es) ≡ span (f ∷ es) + last_width (f ∷ es) = widths_span (f ∷ es) in
    let step : last_width (d ∷ f ∷ es) ≡ last_width (f ∷ es) = last_width_step d f es in
    let first : span (d ∷ f ∷ es) ≡ d.width + span (f ∷ es) = refl in
    let all : widths (d ∷ f ∷ es) ≡ d.width + widths (f ∷ es) = refl in
    omega (arith, more, step, first, all)

-- how far the first entry is once one more stands at the end
pub span_push : (es : List Entry) (e : Entry) → span (es ++ (e ∷ [])) ≡ span es + last_width es
span_push es e = span_widths es e ∙ widths_span es
