-- Sites in sorted sets, the contexts outside, and counts of holders.
use Rattle.std.proofs.Common.{◌≡◌, ℕ, zero, suc, ◌+◌, ◌^◌, ◌<◌, ◌≤◌, ◌==◌, Bool, true, false, cond, List, [], ◌∷◌, ◌++◌}
use Rattle.std.proofs.Common.{length, length-append, append-nil, take, get_or, refl, sym, ◌∙◌, ap, inl, inr, arith, All}
use Rattle.std.proofs.Common.{Result, Ok, Err, MatchResult, is_ok, filter, replicate}
use mir.Val.{bool_byte}
use Rattle.std.specs.List.{range_with_len}
use Rattle.std.specs.List.Sorted.{IsPermutation}
use Rattle.std.proofs.Math.ListN.{get_or-eq_default}
use Rattle.std.proofs.Math.Seq.{get_or-append_seam}
use Rattle.std.proofs.lemmas.Bool.{cases_Bool, cases_eq, cases_lt, cases_order, eq-eqb, ne_eqb, or_left, or_right}
use Rattle.std.proofs.lemmas.Bool.{lt-ltb, le-ltb}
use Rattle.std.proofs.lemmas.List.{get_or_default, get_or_append_left, get_or_past, map-id, length-take}
use Rattle.std.proofs.lemmas.List.{length-replicate, get_or-replicate}
use Rattle.std.proofs.lemmas.List.Sums.{count_by_more_yes, count_by_more_no, count_by-le-length}
use Rattle.std.proofs.lemmas.List.FromFn.{map-range_with_len_more}
use Rattle.std.proofs.lemmas.List.Folds.{list_any_none}
use Rattle.std.proofs.lemmas.List.Elements.{All-push, All-get_or, filter-append}
use Rattle.std.proofs.lemmas.List.Sorted.{list_any-IsPermutation}
use Rattle.selectors.specs.Sets.{is_in}
use Rattle.selectors.specs.Counting.{AreSets, IsRising, AddsHolders, IsTally, is_at}

pub in_at : (xs : List ℕ) (i x : ℕ) → i < length xs → get_or xs i 0 ≡ x → is_in xs x ≡ true
in_at [] i x h e = absurd (omega (arith, h))
in_at (y ∷ ys) zero x h e = or_left (y == x) (is_in ys x) (eq-eqb y x e)
in_at (y ∷ ys) (suc i) x h e = or_right (y == x) (is_in ys x) (in_at ys i x (omega (arith, h)) e)

pub byte_is : (b : Bool) → bool_byte b ≡ cond b 1 0
byte_is true = refl
byte_is false = refl

-- what a search in rising sites finds is whether the site is among them
pub found_is : (xs : List ℕ) (x : ℕ) (r : Result ℕ ℕ) →
    MatchResult r (λ i. (i < length xs) × (get_or xs i 0 ≡ x))
    (λ i. (i ≤ length xs) × ((k : ℕ) → k < i → get_or xs k 0 < x)
    × ((k : ℕ) → i ≤ k → k < length xs → x < get_or xs k 0)) → is_ok r ≡ is_in xs x
found_is xs x (Ok i) found = sym (in_at xs i x found.0 found.1)
found_is xs x (Err i) none = sym (list_any_none (λ y. y == x) xs (λ k d h.
    let at = get_or_default xs k d 0 h in
    elim (cases_lt k i) [
      | inl below ↦ let less = none.1 k below in ne_eqb (get_or xs k d) x (λ e. omega (arith, at, less, e))
      | inr above ↦ let more = none.2 k above h in ne_eqb (get_or xs k d) x (λ e. omega (arith, at, more, e))
    ]))

-- a set behind others
pub get_or_one_more : (xs : List (List ℕ)) (x : List ℕ) (d n : ℕ) → length xs ≡ n →
    get_or (xs ++ x ∷ []) d [] ≡ cond (d == n) x (get_or xs d [])
get_or_one_more xs x d n e = elim (cases_order d n) [
  | inl same ↦ rw (eq-eqb d n same) (ap (λ k. get_or (xs ++ x ∷ []) k []) (same ∙ sym e) ∙
      get_or-append_seam xs x [] [])
  | inr other ↦ elim other [
    | inl below ↦ rw (ne_eqb d n (λ q. omega (arith, below, e, q))) (get_or_append_left xs (x ∷ []) [] d (omega
        (arith, below, e)))
    | inr above ↦ rw (ne_eqb d n (λ q. omega (arith, above, e, q)))
        (get_or-eq_default (xs ++ x ∷ []) [] (omega (arith, above, e, length-append xs (x ∷ [])))
        ∙ sym (get_or-eq_default xs [] (omega (arith, above, e))))
  ]
]

pub sets_start : AreSets [] []
sets_start = record { count = refl; same = λ d s. refl; rising = λ k d h. absurd (omega (arith, h)) }

pub sets_push : (xs ys : List (List ℕ)) (x y : List ℕ) → AreSets xs ys → IsPermutation x y → IsRising y →
    AreSets (xs ++ x ∷ []) (ys ++ y ∷ [])
sets_push xs ys x y are permutation rising = record {
  count = omega (arith, are.count, length-append xs (x ∷ []), length-append ys (y ∷ []));
  same = λ d s. rw (get_or_one_more xs x d (length xs) refl, get_or_one_more ys y d (length xs) are.count)
      (elim (cases_eq d (length xs)) [
        | inl same ↦ rw (eq-eqb d (length xs) same) (sym (list_any-IsPermutation (λ t. t == s) x y permutation))
        | inr other ↦ rw (ne_eqb d (length xs) other) (are.same d s)
      ]);
  rising = All-push IsRising ys y are.rising rising;
}

-- one more number passes a test, or doesn't
pub range_more : (n : ℕ) → range_with_len 0 (n + 1) ≡ range_with_len 0 n ++ n ∷ []
range_more n = sym (map-id (range_with_len 0 (n + 1))) ∙ map-range_with_len_more (λ x. x) 0 n n (omega arith)
    ∙ ap (λ xs. xs ++ n ∷ []) (map-id (range_with_len 0 n))

pub one_more : (p : ℕ → Bool) (n : ℕ) → p n ≡ true →
    filter p (range_with_len 0 (n + 1)) ≡ filter p (range_with_len 0 n) ++ n ∷ []
one_more p n passes = ap (filter p) (range_more n) ∙ filter-append p (range_with_len 0 n) (n ∷ [])
    ∙ ap (λ xs. filter p (range_with_len 0 n) ++ xs) (rw passes refl)

pub none_more : (p : ℕ → Bool) (n : ℕ) → p n ≡ false →
    filter p (range_with_len 0 (n + 1)) ≡ filter p (range_with_len 0 n)
none_more p n fails = ap (filter p) (range_more n) ∙ filter-append p (range_with_len 0 n) (n ∷ [])
    ∙ ap (λ xs. filter p (range_with_len 0 n) ++ xs) (rw fails refl) ∙ append-nil (filter p (range_with_len 0 n))

-- where a place is the first whose site isn't below x, x is in rising sites exactly where it stands there
pub merged : (xs : List ℕ) (place x : ℕ) → IsRising xs → place ≤ length xs →
    ((k : ℕ) → k < place → get_or xs k 0 < x) → (place < length xs → x ≤ get_or xs place 0) →
    is_at xs place x ≡ is_in xs x
merged xs place x rising bound below reached = elim (cases_lt place (length xs)) [
  | inl inside ↦ elim (cases_eq (get_or xs place 0) x) [
    | inl same ↦ rw (lt-ltb place (length xs) inside, eq-eqb (get_or xs place 0) x same)
        (found_is xs x (Ok place) (inside, same))
    | inr other ↦ rw (lt-ltb place (length xs) inside, ne_eqb (get_or xs place 0) x other)
        (found_is xs x (Err place) (
          bound,
          below,
          λ k from l.
              omega (arith, rising place k from l, reached inside, other),
        ))
  ]
  | inr end ↦ rw (le-ltb place (length xs) end)
      (found_is xs x (Err place) (bound, below, λ k from l. absurd (omega (arith, from, l, end))))
]

-- the sites of each context rise, also where there is no such context
pub rising_at : (sets : List (List ℕ)) (d : ℕ) → All IsRising sets → IsRising (get_or sets d [])
rising_at sets d rising = elim (cases_lt d (length sets)) [
  | inl inside ↦ All-get_or IsRising sets d [] inside rising
  | inr past ↦ rw (get_or_past sets d [] past) (λ i j le h. absurd (omega (arith, h)))
]

module _ (holds : ℕ → ℕ → Bool) (contexts sites : List ℕ) where
  pub tally_start : (counts : List ℕ) → counts ≡ replicate (length sites) 0 → IsTally holds [] sites counts
  tally_start counts zeros = record {
    count = ap length zeros ∙ length-replicate (length sites) 0;
    each = λ i h. ap (λ xs. get_or xs i 0) zeros ∙ get_or-replicate (length sites) i 0 0 h;
  }

  pub tally_more : (i : ℕ) (old new : List ℕ) → i < length contexts → IsTally holds (take i contexts) sites old →
      length new ≡ length old → AddsHolders (holds (get_or contexts i 0)) sites old new →
      IsTally holds (take (i + 1) contexts) sites new
  tally_more i old new inside tally same adds = record {
    count = same ∙ tally.count;
    each = λ j h.
        let s = get_or sites j 0 in
        elim (cases_Bool (holds (get_or contexts i 0) s)) [
          | inl held ↦ omega (
            arith,
            adds.each j h,
            tally.each j h,
            ap {B = ℕ} (λ b. cond b 1 0) held,
            count_by_more_yes (λ d. holds d s) contexts i 0 inside held,
          )
          | inr free ↦ omega (
            arith,
            adds.each j h,
            tally.each j h,
            ap {B = ℕ} (λ b. cond b 1 0) free,
            count_by_more_no (λ d. holds d s) contexts i 0 inside free,
          )
        ];
  }

  pub tally_room : (i : ℕ) (counts : List ℕ) → length contexts < 2 ^ 32 → i < length contexts →
      IsTally holds (take i contexts) sites counts → All (λ n. n + 1 < 2 ^ 32) counts
  tally_room i counts few inside tally = λ k d h.
      let own : k < length sites = omega (arith, h, tally.count) in
      omega (
        arith,
        get_or_default counts k d 0 h,
        tally.each k own,
        length-take i contexts,
        few,
        inside,
        count_by-le-length (λ e. holds e (get_or sites k 0)) (take i contexts),
      )
