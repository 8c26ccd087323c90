-- Masks of sets, sites on their bits, and new sites behind others.
use Rattle.std.proofs.Common.{◌≡◌, ℕ, ◌+◌, ◌*◌, ◌^◌, ◌<◌, ◌≤◌, not, Bool, true, false, cond, List, [], ◌∷◌, ◌++◌}
use Rattle.std.proofs.Common.{length, length-drop, take, drop, get_or, refl, sym, ◌∙◌, ap, inl, inr, arith, filter}
use Rattle.std.proofs.lemmas.Bool.{cases_order}
use Rattle.std.proofs.lemmas.Nat.{pow-add, pow_below}
use Rattle.std.proofs.lemmas.List.{drop_more, take_more, length-take-le, append-nil, append_assoc}
use Rattle.std.proofs.lemmas.List.Elements.{filter_more}
use Rattle.selectors.specs.Sets.{is_in}
use Rattle.selectors.specs.Rows.{with_new, mask_of, numbered}

pub pow_le : (i j : ℕ) → i ≤ j → 2 ^ i ≤ 2 ^ j
pow_le i j le = elim (cases_order i j) [
  | inl same ↦ omega (arith, ap (λ k. 2 ^ k) same)
  | inr apart ↦ elim apart [
    | inl below ↦ omega (arith, pow_below i j below)
    | inr above ↦ absurd (omega (arith, le, above))
  ]
]

bit_small : (b : Bool) → cond b 1 0 ≤ 1
bit_small true = omega arith
bit_small false = omega arith

pub pow_one_more : (s : ℕ) (sites : List ℕ) → 2 ^ length (s ∷ sites) ≡ 2 ^ length sites * 2
pow_one_more s sites = let e : length (s ∷ sites) ≡ length sites + 1 = omega arith in
    ap (λ n. 2 ^ n) e ∙ pow-add 2 (length sites) 1

-- a mask has the bits of the sites alone
pub mask_small : (sites set : List ℕ) → mask_of sites set < 2 ^ length sites
mask_small [] set = omega arith
mask_small (s ∷ sites) set =
    omega (arith, mask_small sites set, bit_small (is_in set s), pow_one_more s sites)

-- the mask of the sites from a place on
pub mask_step : (sites set : List ℕ) (i : ℕ) → i < length sites →
    mask_of (drop i sites) set ≡ cond (is_in set (get_or sites i 0)) 1 0 + 2 * mask_of (drop (i + 1) sites) set
mask_step sites set i inside = ap (λ xs. mask_of xs set) (drop_more sites i 0 inside)

pub mask_fits : (sites set : List ℕ) (i m : ℕ) → length sites ≤ 32 → 0 < i → m ≡ mask_of (drop i sites) set →
    2 * m + 1 < 2 ^ 32
mask_fits sites set i m few some is =
    let rest = drop i sites in
    let high = pow_le (length rest) 31 (omega (arith, few, some, length-drop i sites)) in
    omega (arith, is, mask_small rest set, high)

-- a site behind others
pub numbered_push : (from : ℕ) (sites : List ℕ) (s : ℕ) →
    numbered from (sites ++ s ∷ []) ≡ numbered from sites ++ record { bit = from + length sites; addr = s } ∷ []
numbered_push from [] s = ap (λ b. record { bit = b; addr = s } ∷ []) (omega arith)
numbered_push from (t ∷ sites) s = ap (λ lines. record { bit = from; addr = t } ∷ lines) (numbered_push
    (from + 1) sites s
    ∙ ap (λ b. numbered (from + 1) sites ++ record { bit = b; addr = s } ∷ []) (omega arith))

pub numbered_more : (sites : List ℕ) (i : ℕ) → i < length sites →
    numbered 0 (take (i + 1) sites) ≡ numbered 0 (take i sites) ++ record { bit = i; addr = get_or sites i 0 } ∷ []
numbered_more sites i inside = ap (numbered 0) (take_more sites i 0 inside) ∙ numbered_push 0 (take i sites)
    (get_or sites i 0)
    ∙ ap (λ b. numbered 0 (take i sites) ++ record { bit = b; addr = get_or sites i 0 } ∷ [])
    (omega (arith, length-take-le i sites (omega (arith, inside))))

pub length_numbered : (from : ℕ) (sites : List ℕ) → length (numbered from sites) ≡ length sites
length_numbered from [] = refl
length_numbered from (s ∷ sites) = omega (arith, length_numbered (from + 1) sites)

pub new_yes : (sites set : List ℕ) (i x : ℕ) → i < length set → x ≡ get_or set i 0 → is_in sites x ≡ false →
    with_new sites (take (i + 1) set) ≡ with_new sites (take i set) ++ x ∷ []
new_yes sites set i x inside is fresh =
    ap (λ ys. sites ++ ys) (filter_more (λ s. not (is_in sites s)) set i 0 inside
    ∙ rw (sym is, fresh) refl)
    ∙ sym (append_assoc sites (filter (λ s. not (is_in sites s)) (take i set)) (x ∷ []))

pub new_no : (sites set : List ℕ) (i x : ℕ) → i < length set → x ≡ get_or set i 0 → is_in sites x ≡ true →
    with_new sites (take (i + 1) set) ≡ with_new sites (take i set)
new_no sites set i x inside is old =
    ap (λ ys. sites ++ ys) (filter_more (λ s. not (is_in sites s)) set i 0 inside
    ∙ rw (sym is, old) (append-nil (filter (λ s. not (is_in sites s)) (take i set))))
