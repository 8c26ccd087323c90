-- What one entry more adds to a weight, in the whole list and over the entries that are kept.
use Rattle.std.proofs.Common.{◌≡◌, ◌==◌, ◌&&◌, ◌<◌, ◌≤◌, ◌+◌, ◌*◌, ℕ, zero, suc, Bool, true, false, cond, not, nat_le}
use Rattle.std.proofs.Common.{List, [], ◌∷◌, ◌++◌, length, take, drop, get_or, max, refl, ap, sym, ◌∙◌, subst, arith}
use Rattle.std.proofs.Common.{length-append, add-one}
use Rattle.std.specs.Prelude.{All}
use Rattle.std.proofs.lemmas.List.{drop_more, drop_all, drop_at, take_at, take_all, take_more, take-append-le}
use Rattle.std.proofs.lemmas.List.{drop-append-le, get_or_append_left, get_or_push, get_or-append-add, length_push}
use Rattle.std.proofs.lemmas.List.Folds.{list_all-append}
use Rattle.std.proofs.lemmas.List.Elements.{All-take}
use Rattle.affinity.specs.declared.entries.Entry.{Entry}
use Rattle.affinity.specs.Weights.{count_below, sum_below, widths, block_at, is_in_reach, co_allocatable, are_of}
use Rattle.affinity.specs.Weights.{counts, weight_in}
use Rattle.affinity.specs.Near.{span, in_reach, kept_of, has_none, counts_newest, counts_near, near_count}
use Rattle.affinity.proofs.Comparisons.{is_near, near_from, turned}
use Rattle.affinity.proofs.Sums.{one, one_le, same_count, same_sum, ends_count, at_end, count_ends}
use Rattle.affinity.proofs.Spans.{near, span_widths, span-in_reach}
use Rattle.affinity.proofs.Reaches.{few, reach_back}

abbrev pub blank : Entry
blank = record { block = 0; width = 0 }

-- an entry is in reach of the last of those behind it, and counts with it
abbrev pub near_test : ℕ → List ℕ → ℕ → ℕ → ℕ → Entry → List Entry → Bool
near_test distance cs b low high x xs = nat_le (span (x ∷ xs)) distance && counts_near cs b low high x xs

-- an entry is in reach of the last of those behind it
abbrev pub reach_test : ℕ → Entry → List Entry → Bool
reach_test distance x xs = nat_le (span (x ∷ xs)) distance

rest_nearer : (x : Entry) (xs : List Entry) → span xs ≤ span (x ∷ xs)
rest_nearer x [] = omega arith
rest_nearer x (y ∷ ys) = omega arith

ends_near_at : (t : Bool) (distance : ℕ) (cs : List ℕ) (b low high : ℕ) (x : Entry) (xs : List Entry)
    → nat_le (span (x ∷ xs)) distance ≡ t
    → ends_count (near_test distance cs b low high) xs ≡ near_count cs b low high (in_reach distance xs)
    → one (t && counts_near cs b low high x xs) + ends_count (near_test distance cs b low high) xs
    ≡ near_count cs b low high (cond t (x ∷ xs) (in_reach distance xs))
ends_near_at true distance cs b low high x xs is later =
    let all : in_reach distance xs ≡ xs = near distance xs
    (omega (arith, near_from (span (x ∷ xs)) distance is, rest_nearer x xs)) in
    let more : ends_count (near_test distance cs b low high) xs ≡ near_count cs b low high xs =
    later ∙ ap (near_count cs b low high) all in
    ap (λ n. one (counts_near cs b low high x xs) + n) more
ends_near_at false distance cs b low high x xs is later = omega (arith, later)

-- what counts over all ends counts over the entries in reach
ends_near : (distance : ℕ) (cs : List ℕ) (b low high : ℕ) (xs : List Entry)
    → ends_count (near_test distance cs b low high) xs ≡ near_count cs b low high (in_reach distance xs)
ends_near distance cs b low high [] = refl
ends_near distance cs b low high (x ∷ xs) =
    ends_near_at (nat_le (span (x ∷ xs)) distance) distance cs b low high x xs refl
    (ends_near distance cs b low high xs)

counts_some : (cs : List ℕ) (b low high : ℕ) (x : Entry) (ys : List Entry) (e : Entry)
    → counts_near cs b low high x (ys ++ (e ∷ []))
    ≡ (has_none (ys ++ (e ∷ [])) x.block && co_allocatable cs x.block b && are_of cs x.block b low high)
counts_some cs b low high x [] e = refl
counts_some cs b low high x (y ∷ ys) e = refl

-- the parts of the test, in the order of the whole list and in that of the ring
mix : (o l r c a : Bool) → (o && l && r && c && a) ≡ (r && (l && (o && true) && c && a))
mix true true true c a = refl
mix true true false c a = refl
mix true false true c a = refl
mix true false false c a = refl
mix false true true c a = refl
mix false true false c a = refl
mix false false true c a = refl
mix false false false c a = refl

module _ (es : List Entry) (e : Entry) where
  all_before : take (length es) (es ++ (e ∷ [])) ≡ es
  all_before = take_at es (e ∷ []) (length es) refl

  end_of : (i : ℕ) → i < length es → drop i (es ++ (e ∷ []))
      ≡ get_or (es ++ (e ∷ [])) i blank ∷ (drop (i + 1) es ++ (e ∷ []))
  end_of i h =
      drop_more (es ++ (e ∷ [])) i blank (omega (arith, length_push es e))
      ∙ ap (λ xs. get_or (es ++ (e ∷ [])) i blank ∷ xs) (drop-append-le (i + 1) es (e ∷ []) (omega arith))

  -- how far entry i is from the last
  far_of : (i : ℕ) → i < length es → span (get_or (es ++ (e ∷ [])) i blank ∷ (drop (i + 1) es ++ (e ∷ [])))
      ≡ widths (drop i es)
  far_of i h =
      let whole : drop i (es ++ (e ∷ [])) ≡ drop i es ++ (e ∷ []) = drop-append-le i es (e ∷ []) (omega arith) in
      ap span (sym (end_of i h) ∙ whole) ∙ span_widths (drop i es) e

  -- entry i counts with the new one exactly where its end passes the test
  near_place : (distance : ℕ) (cs : List ℕ) (low high i : ℕ) → i < length es
      → counts distance cs (es ++ (e ∷ [])) low high i (length es)
      ≡ at_end (near_test distance cs e.block low high) (drop i (es ++ (e ∷ [])))
  near_place distance cs low high i h =
      let last : block_at (es ++ (e ∷ [])) (length es) ≡ e.block =
      ap (λ (x : Entry). x.block) (get_or_push es e blank (length es) refl) in
      rw (
        end_of i h,
        all_before,
        last,
        far_of i h,
        counts_some cs e.block low high (get_or (es ++ (e ∷ [])) i blank) (drop (i + 1) es) e,
        list_all-append (λ (x : Entry). not (x.block == block_at (es ++ (e ∷ [])) i)) (drop (i + 1) es) (e ∷ []),
        turned (block_at (es ++ (e ∷ [])) i) e.block,
      )
      (mix (not (e.block == block_at (es ++ (e ∷ [])) i)) (has_none (drop (i + 1) es) (block_at (es ++ (e ∷ [])) i))
      (nat_le (widths (drop i es)) distance)
      (co_allocatable cs (block_at (es ++ (e ∷ [])) i) e.block)
      (are_of cs (block_at (es ++ (e ∷ [])) i) e.block low high))

  last_end : drop (length es) (es ++ (e ∷ [])) ≡ e ∷ []
  last_end = drop_at es (e ∷ []) (length es) refl

  both_false : (t : Bool) → (t && false) ≡ false
  both_false true = refl
  both_false false = refl

  long : length (es ++ (e ∷ [])) ≡ suc (length es)
  long = length_push es e ∙ add-one (length es)

  -- what counts with the new entry is what counts over the entries in reach
  pub ring_sum : (distance : ℕ) (cs : List ℕ) (low high : ℕ)
      → count_below (λ i. counts distance cs (es ++ (e ∷ [])) low high i (length es)) (length es)
      ≡ near_count cs e.block low high (in_reach distance (es ++ (e ∷ [])))
  ring_sum distance cs low high =
      let t : Entry → List Entry → Bool = near_test distance cs e.block low high in
      let over : count_below (λ i. counts distance cs (es ++ (e ∷ [])) low high i (length es)) (length es)
      ≡ count_below (λ i. at_end (near_test distance cs e.block low high) (drop i (es ++ (e ∷ [])))) (length es) =
      same_count _ _ (length es) (λ i h. near_place distance cs low high i h) in
      let none : at_end (near_test distance cs e.block low high) (drop (length es) (es ++ (e ∷ []))) ≡ false =
      rw last_end (both_false (nat_le 0 distance)) in
      let all : count_below (λ i. at_end (near_test distance cs e.block low high) (drop i (es ++ (e ∷ []))))
      (suc (length es)) ≡ ends_count (near_test distance cs e.block low high) (es ++ (e ∷ [])) =
      subst (λ n. count_below (λ i. at_end (near_test distance cs e.block low high) (drop i (es ++ (e ∷ [])))) n
      ≡ ends_count (near_test distance cs e.block low high)
      (es ++ (e ∷ []))) long (count_ends (near_test distance cs e.block low high) (es ++ (e ∷ []))) in
      let ends = ends_near distance cs e.block low high (es ++ (e ∷ [])) in
      let last : one (at_end (near_test distance cs e.block low high) (drop (length es) (es ++ (e ∷ [])))) ≡ 0 =
      ap one none in
      omega (arith, over, all, ends, last)

  -- earlier entries count as before
  counts_push : (distance : ℕ) (cs : List ℕ) (low high i j : ℕ) → i < j → j < length es
      → counts distance cs (es ++ (e ∷ [])) low high i j ≡ counts distance cs es low high i j
  counts_push distance cs low high i j first second =
      let front : take j (es ++ (e ∷ [])) ≡ take j es = take-append-le j es (e ∷ []) (omega arith) in
      let at_i : block_at (es ++ (e ∷ [])) i ≡ block_at es i =
      ap (λ (x : Entry). x.block) (get_or_append_left es (e ∷ []) blank i (omega arith)) in
      let at_j : block_at (es ++ (e ∷ [])) j ≡ block_at es j =
      ap (λ (x : Entry). x.block) (get_or_append_left es (e ∷ []) blank j second) in
      rw (front, at_i, at_j) refl

  -- one entry more adds what it counts with the entries in reach
  pub weight_push : (distance : ℕ) (cs : List ℕ) (low high : ℕ)
      → weight_in distance cs (es ++ (e ∷ [])) low high
      ≡ weight_in distance cs es low high + near_count cs e.block low high (in_reach distance (es ++ (e ∷ [])))
  unfolding weight_in
  weight_push distance cs low high =
      let before : sum_below (λ j. count_below (λ i. counts distance cs (es ++ (e ∷ [])) low high i j) j) (length es)
      ≡ sum_below (λ j. count_below (λ i. counts distance cs es low high i j) j) (length es) =
      same_sum _ _ (length es) (λ j second. same_count _ _ j
      (λ i first. counts_push distance cs low high i j first second)) in
      rw long (omega (arith, before, ring_sum distance cs low high))

-- grants that come later change nothing
pub weight_grant : (distance : ℕ) (cs : List ℕ) (c : ℕ) (es : List Entry) (low high : ℕ)
    → All (λ e. e.block < length cs) es
    → weight_in distance (cs ++ (c ∷ [])) es low high ≡ weight_in distance cs es low high
unfolding weight_in
weight_grant distance cs c es low high known =
    same_sum _ _ (length es) (λ j second. same_count _ _ j (λ i first.
    let i_in : block_at es i < length cs = known i blank (omega arith) in
    let j_in : block_at es j < length cs = known j blank second in
    let at_i : get_or (cs ++ (c ∷ [])) (block_at es i) 0 ≡ get_or cs (block_at es i) 0 =
    get_or_append_left cs (c ∷ []) 0 (block_at es i) i_in in
    let at_j : get_or (cs ++ (c ∷ [])) (block_at es j) 0 ≡ get_or cs (block_at es j) 0 =
    get_or_append_left cs (c ∷ []) 0 (block_at es j) j_in in
    let front : take (max (block_at es i) (block_at es j)) (cs ++ (c ∷ []))
    ≡ take (max (block_at es i) (block_at es j)) cs =
    take-append-le (max (block_at es i) (block_at es j)) cs (c ∷ []) (omega arith) in
    rw (front, at_i, at_j) refl))

-- no more entries count than there are before the last
pub near_few : (cs : List ℕ) (b low high : ℕ) (x : Entry) (xs : List Entry)
    → near_count cs b low high (x ∷ xs) ≤ length xs
near_few cs b low high x [] = omega arith
near_few cs b low high x (y ∷ ys) = omega (
  arith,
  one_le (counts_near cs b low high x (y ∷ ys)),
  near_few cs b low high y ys,
)

-- an entry adds at most as much as the distance
pub near_small : (distance : ℕ) (cs : List ℕ) (b low high : ℕ) (es : List Entry) → All (λ e. 1 ≤ e.width) es
    → near_count cs b low high (in_reach distance es) ≤ distance
near_small distance cs b low high es wide =
    let (front, is) = reach_back distance es in
    let held : All (λ e. 1 ≤ e.width) (in_reach distance es) = wide_end front (in_reach distance es) es is wide in
    bounded (in_reach distance es) held (span-in_reach distance es)
  where
    wide_end : (front back all : List Entry) → all ≡ front ++ back → All (λ e. 1 ≤ e.width) all
        → All (λ e. 1 ≤ e.width) back
    wide_end front back all is wide = λ k d h.
        let there : get_or all (length front + k) d ≡ get_or back k d = ap (λ xs. get_or xs (length front + k) d) is
        ∙ get_or-append-add front back k d in
        let deep : length front + k < length all = omega (arith, ap length is, length-append front back, h) in
        subst (λ (x : Entry). 1 ≤ x.width) there (wide (length front + k) d deep)

    bounded : (xs : List Entry) → All (λ e. 1 ≤ e.width) xs → span xs ≤ distance
        → near_count cs b low high xs ≤ distance
    bounded [] wide close = omega arith
    bounded (x ∷ xs) wide close = omega (arith, near_few cs b low high x xs, few (x ∷ xs) wide)

weight_front : (distance : ℕ) (cs : List ℕ) (low high : ℕ) (es : List Entry) (n : ℕ) → All (λ e. 1 ≤ e.width) es
    → n ≤ length es → weight_in distance cs (take n es) low high ≤ n * distance
unfolding weight_in
weight_front distance cs low high es zero wide inside = omega arith
weight_front distance cs low high es (suc n) wide inside =
    let more : take (suc n) es ≡ take n es ++ (get_or es n blank ∷ []) =
    rw (← add-one n) (take_more es n blank inside) in
    let before = weight_front distance cs low high es n wide (omega arith) in
    let added = weight_push (take n es) (get_or es n blank) distance cs low high in
    let few_more : near_count cs (get_or es n blank).block low high
    (in_reach distance (take n es ++ (get_or es n blank ∷ []))) ≤ distance =
    near_small distance cs (get_or es n blank).block low high (take n es ++ (get_or es n blank ∷ []))
    (subst (λ xs. All (λ (e : Entry). 1 ≤ e.width) xs) more (All-take (λ (e : Entry). 1 ≤ e.width) (suc n) es wide)) in
    let whole : weight_in distance cs (take (suc n) es) low high ≡ weight_in distance cs
    (take n es ++ (get_or es n blank ∷ [])) low high = ap (λ xs. weight_in distance cs xs low high) more in
    omega (arith, before, added, few_more, whole)

-- a weight is at most the number of entries times the distance
pub weight_small : (distance : ℕ) (cs : List ℕ) (low high : ℕ) (es : List Entry) → All (λ e. 1 ≤ e.width) es
    → weight_in distance cs es low high ≤ length es * distance
weight_small distance cs low high es wide =
    let all : take (length es) es ≡ es = take_all (length es) es (omega arith) in
    subst (λ xs. weight_in distance cs xs low high ≤ length es * distance) all
    (weight_front distance cs low high es (length es) wide (omega arith))

-- some entries are those before the last, and the last
pub split_last : (x : Entry) (xs : List Entry) → (es : List Entry) × (e : Entry) × (x ∷ xs ≡ es ++ (e ∷ []))
split_last x [] = ([], x, refl)
split_last x (y ∷ ys) = let (es, e, is) = split_last y ys in (x ∷ es, e, ap (λ zs. x ∷ zs) is)

ends_reach_at : (t : Bool) (distance : ℕ) (x : Entry) (xs : List Entry) → nat_le (span (x ∷ xs)) distance ≡ t
    → ends_count (reach_test distance) xs ≡ length (in_reach distance xs)
    → one t + ends_count (reach_test distance) xs ≡ length (cond t (x ∷ xs) (in_reach distance xs))
ends_reach_at true distance x xs is later =
    let all : in_reach distance xs ≡ xs = near distance xs
    (omega (arith, near_from (span (x ∷ xs)) distance is, rest_nearer x xs)) in
    omega (arith, later, ap length all)
ends_reach_at false distance x xs is later = omega (arith, later)

ends_reach : (distance : ℕ) (xs : List Entry) → ends_count (reach_test distance) xs ≡ length (in_reach distance xs)
ends_reach distance [] = refl
ends_reach distance (x ∷ xs) = ends_reach_at (nat_le (span (x ∷ xs)) distance) distance x xs refl
    (ends_reach distance xs)

-- how many entries are in reach of the last
kept_push : (distance : ℕ) (es : List Entry) (e : Entry)
    → count_below (λ i. is_in_reach distance (es ++ (e ∷ [])) i (length es)) (length es) + 1
    ≡ length (in_reach distance (es ++ (e ∷ [])))
kept_push distance es e =
    let place : (i : ℕ) → i < length es → is_in_reach distance (es ++ (e ∷ [])) i (length es)
    ≡ at_end (reach_test distance) (drop i (es ++ (e ∷ []))) =
    λ i h. rw (end_of es e i h, all_before es e, far_of es e i h) refl in
    let over : count_below (λ i. is_in_reach distance (es ++ (e ∷ [])) i (length es)) (length es)
    ≡ count_below (λ i. at_end (reach_test distance) (drop i (es ++ (e ∷ [])))) (length es) =
    same_count _ _ (length es) place in
    let here : at_end (reach_test distance) (drop (length es) (es ++ (e ∷ []))) ≡ true =
    rw (last_end es e) (is_near 0 distance (omega arith)) in
    let one_here : one (at_end (reach_test distance) (drop (length es) (es ++ (e ∷ [])))) ≡ 1 = ap one here in
    let all : count_below (λ i. at_end (reach_test distance) (drop i (es ++ (e ∷ [])))) (suc (length es))
    ≡ ends_count (reach_test distance) (es ++ (e ∷ [])) =
    subst (λ n. count_below (λ i. at_end (reach_test distance) (drop i (es ++ (e ∷ [])))) n
    ≡ ends_count (reach_test distance) (es ++ (e ∷ []))) (long es e) (count_ends (reach_test distance)
    (es ++ (e ∷ []))) in
    omega (arith, over, one_here, all, ends_reach distance (es ++ (e ∷ [])))

-- the entries that are kept are as many as are in reach of the last, and one
pub kept_is : (distance : ℕ) (es : List Entry) → length (in_reach distance es) ≡ kept_of distance es
kept_is distance [] = refl
kept_is distance (x ∷ xs) =
    let (es, e, is) = split_last x xs in
    let n : length xs ≡ length es = omega (arith, ap length is, length_push es e) in
    ap (λ ys. length (in_reach distance ys)) is ∙ (sym (kept_push distance es e)
    ∙ (ap (λ ys. count_below (λ i. is_in_reach distance ys i (length es)) (length es) + 1) (sym is)
    ∙ ap (λ k. count_below (λ i. is_in_reach distance (x ∷ xs) i k) k + 1) (sym n)))

-- no more are kept than the distance and one
pub kept_small : (distance : ℕ) (es : List Entry) → All (λ e. 1 ≤ e.width) es
    → length (in_reach distance es) ≤ distance + 1
kept_small distance es wide =
    let (front, is) = reach_back distance es in
    let held : All (λ e. 1 ≤ e.width) (in_reach distance es) = λ k d h.
    (let there : get_or es (length front + k) d ≡ get_or (in_reach distance es) k d =
    ap (λ xs. get_or xs (length front + k) d) is ∙ get_or-append-add front (in_reach distance es) k d in
    let deep : length front + k < length es =
    omega (arith, ap length is, length-append front (in_reach distance es), h) in
    subst (λ (x : Entry). 1 ≤ x.width) there (wide (length front + k) d deep)) in
    omega (arith, few (in_reach distance es) held, span-in_reach distance es)

-- the first of some entries, behind which there are more
pub near_step : (cs : List ℕ) (b low high : ℕ) (xs : List Entry) (at : ℕ) → at + 1 < length xs
    → near_count cs b low high (drop at xs) ≡ one (counts_newest cs b low high (block_at xs at) (drop (at + 1) xs))
    + near_count cs b low high (drop (at + 1) xs)
near_step cs b low high xs at inside =
    let here : drop at xs ≡ get_or xs at blank ∷ drop (at + 1) xs = drop_more xs at blank (omega arith) in
    let next : drop (at + 1) xs ≡ get_or xs (at + 1) blank ∷ drop (at + 1 + 1) xs =
    drop_more xs (at + 1) blank inside in
    rw (here, next) refl

-- the last entry counts with none
pub near_end : (cs : List ℕ) (b low high : ℕ) (xs : List Entry) (at : ℕ) → at + 1 ≡ length xs
    → near_count cs b low high (drop at xs) ≡ 0
near_end cs b low high xs at is =
    let here : drop at xs ≡ get_or xs at blank ∷ drop (at + 1) xs = drop_more xs at blank (omega arith) in
    let none : drop (at + 1) xs ≡ [] = drop_all (at + 1) xs (omega arith) in
    rw (here, none) refl

-- no more entries are in reach than there are
pub reach_short : (distance : ℕ) (es : List Entry) → length (in_reach distance es) ≤ length es
reach_short distance es =
    let (front, is) = reach_back distance es in
    omega (arith, ap length is, length-append front (in_reach distance es))

-- what holds of all entries holds of those in reach
pub All-in_reach : (P : Entry → Type 0) (distance : ℕ) (es : List Entry) → All P es → All P (in_reach distance es)
All-in_reach P distance es all = λ k d h.
    let (front, is) = reach_back distance es in
    let there : get_or es (length front + k) d ≡ get_or (in_reach distance es) k d =
    ap (λ xs. get_or xs (length front + k) d) is ∙ get_or-append-add front (in_reach distance es) k d in
    let deep : length front + k < length es =
    omega (arith, ap length is, length-append front (in_reach distance es), h) in
    subst P there (all (length front + k) d deep)
