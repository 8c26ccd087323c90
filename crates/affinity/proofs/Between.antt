-- Co-allocatable blocks, from the next grant of the one's context and the one before of the other's.
use Rattle.std.proofs.Common.{◌≡◌, ◌<◌, ◌≤◌, ◌+◌, ◌-◌, ◌==◌, ◌&&◌, ℕ, Bool, true, false, not, nat_le, List, [], ◌∷◌}
use Rattle.std.proofs.Common.{length, take, get_or, min, max, inl, inr, Option, Some, None, refl, sym, ◌∙◌, arith}
use Rattle.std.proofs.Common.{length-take, length-drop, get_or-take, get_or-drop}
use Rattle.std.specs.List.{list_all}
use Rattle.std.proofs.lemmas.List.Recursion.{and_from_places, and_fails_at}
use Rattle.affinity.specs.Weights.{strictly_between, co_allocatable}
use Rattle.affinity.specs.Linked.{contexts_in, LacksWithin, IsNeighbour, IsBefore, IsNext, IsLinked}
use Rattle.affinity.specs.declared.grants.GrantNote.{GrantNote}
use Rattle.std.proofs.lemmas.List.{length-map}
use Rattle.std.proofs.lemmas.Bool.{cases_lt}
use Rattle.affinity.specs.Links.{none_or_from, none_or_to}
use Rattle.affinity.proofs.Comparisons.{is_same, is_other, near_from, far_from}

-- no number of a list is this one
abbrev pub lacks : List ℕ → ℕ → Bool
lacks xs x = list_all (λ y. not (y == x)) xs

between_length : (xs : List ℕ) (i j : ℕ) → j ≤ length xs → length (strictly_between i j xs) ≡ j - (i + 1)
between_length xs i j inside = simp (length-drop, length-take) (omega arith)

between_at : (xs : List ℕ) (i j k : ℕ) → i + 1 + k < j → get_or (strictly_between i j xs) k 0 ≡ get_or xs (i + 1 + k) 0
between_at xs i j k inside = rw (get_or-drop (i + 1) (take j xs) k 0, get_or-take j xs (i + 1 + k) 0 inside) refl

-- the numbers between two places lack a number that stands at none of them
pub lacks_from : (xs : List ℕ) (x i j : ℕ) → j ≤ length xs → LacksWithin xs x (i + 1) j
    → lacks (strictly_between i j xs) x ≡ true
lacks_from xs x i j inside clear =
    and_from_places (λ ys. list_all (λ y. not (y == x)) ys) (λ y. not (y == x)) refl (λ _ _. refl)
    (strictly_between i j xs) 0
    (λ k h.
    let long : length (strictly_between i j xs) ≡ j - (i + 1) = between_length xs i j inside in
    let deep : i + 1 + k < j = omega arith in
    let here : get_or (strictly_between i j xs) k 0 ≡ get_or xs (i + 1 + k) 0 = between_at xs i j k deep in
    rw (here, is_other (get_or xs (i + 1 + k) 0) x (clear (i + 1 + k) (omega arith) deep)) refl)

-- they don't lack a number that stands at one of them
pub has_from : (xs : List ℕ) (x i j n : ℕ) → j ≤ length xs → i < n → n < j → get_or xs n 0 ≡ x
    → lacks (strictly_between i j xs) x ≡ false
has_from xs x i j n inside low high is =
    let k : ℕ = n - (i + 1) in
    let place : i + 1 + (n - (i + 1)) ≡ n = omega arith in
    let long : length (strictly_between i j xs) ≡ j - (i + 1) = between_length xs i j inside in
    let here : get_or (strictly_between i j xs) (n - (i + 1)) 0 ≡ get_or xs (i + 1 + (n - (i + 1))) 0 =
    between_at xs i j (n - (i + 1)) (omega arith) in
    and_fails_at (λ ys. list_all (λ y. not (y == x)) ys) (λ y. not (y == x)) refl (λ _ _. refl)
    (strictly_between i j xs) (n - (i + 1)) 0 (omega arith)
    (rw (here, place, is_same (get_or xs n 0) x is) refl)

-- a test of both is a test of each
pub all_both : (f g : ℕ → Bool) (xs : List ℕ) → list_all (λ x. f x && g x) xs ≡ (list_all f xs && list_all g xs)
all_both f g [] = refl
all_both f g (x ∷ xs) = mix (f x) (g x) (list_all f xs) (list_all g xs) (list_all (λ y. f y && g y) xs)
    (all_both f g xs)
  where
    mix : (a b c d e : Bool) → e ≡ (c && d) → (a && b && e) ≡ ((a && c) && (b && d))
    mix true true c d e is = is
    mix true false true d e is = refl
    mix true false false d e is = refl
    mix false b c d e is = refl

next_at : (t : Bool) (xs : List ℕ) (p q n : ℕ) → q ≤ length xs → p < length xs → IsNeighbour xs p n → nat_le q n ≡ t
    → t ≡ lacks (strictly_between p q xs) (get_or xs p 0)
next_at true xs p q n inside low is test =
    sym (lacks_from xs (get_or xs p 0) p q inside (λ k from to same. is.3 k from (omega (arith, near_from q n test))
    (same ∙ is.2)))
next_at false xs p q n inside low is test =
    sym (has_from xs (get_or xs p 0) p q n inside is.0 (far_from q n test) (sym is.2))

-- the next grant's number says whether the context is granted again before q
pub next_tells : (next : Option ℕ) (xs : List ℕ) (p q : ℕ) → q ≤ length xs → p < length xs → IsNext xs p next
    → none_or_from next q ≡ lacks (strictly_between p q xs) (get_or xs p 0)
next_tells None xs p q inside low is =
    sym (lacks_from xs (get_or xs p 0) p q inside (λ k from to. is k from (omega arith)))
next_tells (Some n) xs p q inside low is = next_at (nat_le q n) xs p q n inside low is refl

before_at : (t : Bool) (xs : List ℕ) (p q n : ℕ) → q < length xs → IsNeighbour xs n q → nat_le n p ≡ t
    → t ≡ lacks (strictly_between p q xs) (get_or xs q 0)
before_at true xs p q n inside is test =
    sym (lacks_from xs (get_or xs q 0) p q (omega arith) (λ k from to. is.3 k (omega (arith, near_from n p test)) to))
before_at false xs p q n inside is test =
    sym (has_from xs (get_or xs q 0) p q n (omega arith) (far_from n p test) is.0 is.2)

-- the number of the grant before says whether the context was granted after p
pub before_tells : (before : Option ℕ) (xs : List ℕ) (p q : ℕ) → q < length xs → IsBefore xs q before
    → none_or_to before p ≡ lacks (strictly_between p q xs) (get_or xs q 0)
before_tells None xs p q inside is =
    sym (lacks_from xs (get_or xs q 0) p q (omega arith) (λ k from to. is k (omega arith) to))
before_tells (Some n) xs p q inside is = before_at (nat_le n p) xs p q n inside is refl

-- both numbers say whether two blocks are co-allocatable
pub two_numbers : (next before : Option ℕ) (xs : List ℕ) (p q : ℕ) → p < length xs → q < length xs → IsNext xs p next
    → IsBefore xs q before
    → (none_or_from next q && none_or_to before p)
    ≡ list_all (λ x. not (x == get_or xs p 0) && not (x == get_or xs q 0)) (strictly_between p q xs)
two_numbers next before xs p q low high after earlier =
    rw (next_tells next xs p q (omega arith) low after, before_tells before xs p q high earlier)
    (sym (all_both (λ x. not (x == get_or xs p 0)) (λ x. not (x == get_or xs q 0)) (strictly_between p q xs)))

and_turned : (a b : Bool) → (a && b) ≡ (b && a)
and_turned true true = refl
and_turned true false = refl
and_turned false true = refl
and_turned false false = refl

-- the same test, with its parts the other way round
pub all_turned : (f g : ℕ → Bool) (xs : List ℕ) → list_all (λ x. f x && g x) xs ≡ list_all (λ x. g x && f x) xs
all_turned f g xs = all_both f g xs ∙ (and_turned (list_all f xs) (list_all g xs) ∙ sym (all_both g f xs))

-- what the notes of two grants say
pub notes_tell : (notes : List GrantNote) (lasts : List ℕ) (b c low high : ℕ) (x y : GrantNote) → IsLinked notes lasts
    → b < length (contexts_in notes) → c < length (contexts_in notes) → low ≡ min b c → high ≡ max b c
    → x ≡ get_or notes low x → y ≡ get_or notes high y
    → (none_or_from x.next high && none_or_to y.before low) ≡ co_allocatable (contexts_in notes) b c
notes_tell notes lasts b c low high x y is b_in c_in low_is high_is x_is y_is =
    let n : length (contexts_in notes) ≡ length notes = length-map notes (λ (m : GrantNote). m.context) in
    elim (cases_lt b c) [
      | inl less ↦
          (let l : low ≡ b = omega arith in
          let h : high ≡ c = omega arith in
          let next : IsNext (contexts_in notes) b x.next = rw (x_is, l) (is.next b x (omega arith)) in
          let before : IsBefore (contexts_in notes) c y.before = rw (y_is, h) (is.before c y (omega arith)) in
          rw (l, h, (let m : min b c ≡ b = omega arith in m), (let m : max b c ≡ c = omega arith in m))
          (two_numbers x.next y.before (contexts_in notes) b c b_in c_in next before))
      | inr more ↦
          (let l : low ≡ c = omega arith in
          let h : high ≡ b = omega arith in
          let next : IsNext (contexts_in notes) c x.next = rw (x_is, l) (is.next c x (omega arith)) in
          let before : IsBefore (contexts_in notes) b y.before = rw (y_is, h) (is.before b y (omega arith)) in
          rw (l, h, (let m : min b c ≡ c = omega arith in m), (let m : max b c ≡ b = omega arith in m))
          (two_numbers x.next y.before (contexts_in notes) c b c_in b_in next before
          ∙ all_turned (λ z. not (z == get_or (contexts_in notes) c 0)) (λ z. not (z == get_or (contexts_in notes) b 0))
          (strictly_between c b (contexts_in notes))))
    ]
