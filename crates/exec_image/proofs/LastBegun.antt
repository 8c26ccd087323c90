-- Among parts in order, the last that begins in time has the greatest end of those that do.
use Rattle.std.proofs.Common.{◌≡◌, ℕ, ◌-◌, ◌<◌, ◌≤◌, ◌&&◌, Bool, true, false, List, get_or, length, nat_lt, ltb, refl}
use Rattle.std.proofs.Common.{sym, ◌∙◌, inl, inr, arith}
use Rattle.std.specs.List.{list_any}
use Rattle.std.specs.List.Sorted.{IsNonDecreasingBy, IsPartitionPoint}
use Rattle.std.proofs.lemmas.Bool.{cases_lt}
use Rattle.std.proofs.lemmas.Bool.Decides.{nat_tests}
use Rattle.std.proofs.lemmas.List.{get_or_default}
use Rattle.std.proofs.lemmas.List.Folds.{list_any_at, list_any_none}
use Rattle.exec_image.specs.declared.parts.Part.{Part}
use Rattle.exec_image.specs.Parts.{is_meeting}

abbrev Begun : (to : ℕ) → List Part → ℕ → Type 0
Begun to ps n = IsPartitionPoint (λ p. ltb p.start to ≡ true) (λ p. ltb p.start to ≡ false) ps n

late : (from to : ℕ) (p : Part) → ltb p.start to ≡ false → is_meeting from to p ≡ false
late from to p h = rw h refl

early : (from to : ℕ) (p : Part) → p.end ≤ from → is_meeting from to p ≡ false
early from to p h = tests (nat_lt p.start to) p.end h
  where
    tests : (b : Bool) (e : ℕ) → e ≤ from → (b && nat_lt from e) ≡ false
    tests true e h = grind (arith, nat_tests)
    tests false e h = refl

pub none_begun : (from to : ℕ) (ps : List Part) (n : ℕ) → Begun to ps n → n ≤ 0
    → nat_lt 0 n ≡ list_any (is_meeting from to) ps
none_begun from to ps n point h =
    let e : nat_lt 0 n ≡ false = grind (arith, nat_tests) in
    e ∙ sym (list_any_none (is_meeting from to) ps
    (λ k d l. late from to (get_or ps k d) (point.1 k d (omega (arith, h)) l)))

pub last_begun : (from to : ℕ) (ps : List Part) (n : ℕ) (d : Part) → Begun to ps n → IsNonDecreasingBy (λ p. p.end) ps
    → n ≤ length ps → 0 < n
    → nat_lt from (get_or ps (n - 1) d).end ≡ list_any (is_meeting from to) ps
last_begun from to ps n d point ends bound h = decide (nat_lt from (get_or ps (n - 1) d).end) refl
  where
    below : n - 1 < length ps
    below = omega (arith, h, bound)

    decide : (b : Bool) → nat_lt from (get_or ps (n - 1) d).end ≡ b
        → nat_lt from (get_or ps (n - 1) d).end ≡ list_any (is_meeting from to) ps
    decide true e =
        let m : is_meeting from to (get_or ps (n - 1) d) ≡ true =
        rw (point.0 (n - 1) d (omega arith) (omega (arith, h)), e) refl in
        e ∙ sym (list_any_at (is_meeting from to) ps (n - 1) d below m)
    decide false e =
        let last : (get_or ps (n - 1) d).end ≤ from = grind (arith, nat_tests) in
        e ∙ sym (list_any_none (is_meeting from to) ps (λ k f l. elim (cases_lt k n) [
          | inl i ↦
              let g : (get_or ps k f).end ≤ (get_or ps (n - 1) f).end = ends k (n - 1) f (omega (arith, h, i)) below in
              let j : (get_or ps (n - 1) f).end ≤ from = rw (get_or_default ps (n - 1) f d below) last in
              early from to (get_or ps k f) (omega (arith, g, j))
          | inr i ↦ late from to (get_or ps k f) (point.1 k f (omega (arith, i)) l)
        ]))
