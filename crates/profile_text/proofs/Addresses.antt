-- The addresses of a context line.
use Rattle.std.proofs.Common.{◌≡◌, ◌<◌, ◌≤◌, ◌+◌, ◌-◌, ◌^◌, ℕ, zero, suc, List, [], ◌∷◌, ◌++◌, length, Option, Some}
use Rattle.std.proofs.Common.{None, refl, ap, sym, ◌∙◌, subst, arith, append_assoc, length-append}
use Rattle.std.specs.Prelude.{All}
use Rattle.std.specs.List.{flat_map}
use Rattle.std.proofs.lemmas.List.{append-nil}
use Rattle.std.proofs.lemmas.List.Elements.{All-nil, All-cons, All-head, All-tail}
use Rattle.std.proofs.lemmas.Option.{some_pair_parts}
use Rattle.text_fields.specs.Reading.{after_front}
use Rattle.text_fields.specs.Writing.{hex8}
use Rattle.profile_text.specs.Profile.{addr_text}
use Rattle.profile_text.specs.Reading.{addr_at, put_before, then_more, addrs_on, addrs_at}
use Rattle.profile_text.proofs.Laws.{TextLaws, bound, chosen, front_fails, front_again}

abbrev Word : ℕ → Type 0
Word a = a < 2 ^ 32

-- an address that is found is written there
addr_takes : (laws : TextLaws) (text : List ℕ) (a : ℕ) (rest : List ℕ) → addr_at text ≡ Some (a, rest)
    → (a < 2 ^ 32) × (text ≡ addr_text a ++ rest)
unfolding addr_at
addr_takes laws text a rest found =
    bound (after_front (32 ∷ []) text) _ _ found (λ tail e1 e2.
    let word = (laws.hexadecimal a tail rest).0 e2 in
    let space : text ≡ (32 ∷ []) ++ tail = (laws.front (32 ∷ []) text tail).0 e1 in
    (word.0, rw (space, word.1) refl))

addr_again : (laws : TextLaws) (a : ℕ) (rest : List ℕ) → a < 2 ^ 32 → addr_at (addr_text a ++ rest) ≡ Some (a, rest)
unfolding addr_at
addr_again laws a rest small = rw (front_again laws (32 ∷ []) (hex8 a ++ rest))
    ((laws.hexadecimal a (hex8 a ++ rest) rest).1 (small, refl))

-- what more addresses found
more_found : {P : Type 0} (o : Option (ℕ × List ℕ)) (next : List ℕ → Option (List ℕ × List ℕ)) (addrs rest : List ℕ)
    → then_more o next ≡ Some (addrs, rest)
    → ((a : ℕ) (tail later : List ℕ) → o ≡ Some (a, tail) → next tail ≡ Some (later, rest) → addrs ≡ a ∷ later → P) → P
more_found None next addrs rest e k = absurd cc
more_found {P} (Some found) next addrs rest e k = at (next found.1) refl e
  where
    at : (o : Option (List ℕ × List ℕ)) → next found.1 ≡ o → put_before found.0 o ≡ Some (addrs, rest) → P
    at None is e = absurd cc
    at (Some later) is e =
        let both : (found.0 ∷ later.0 ≡ addrs) × (later.1 ≡ rest) = some_pair_parts _ _ _ _ e in
        k found.0 found.1 later.0 refl (is ∙ ap (λ r. Some (later.0, r)) both.1) (sym both.0)

-- addresses that are found are written there, up to the newline
pub addrs_take : (laws : TextLaws) (k : ℕ) (text addrs rest : List ℕ) → addrs_on k text ≡ Some (addrs, rest)
    → All (λ a. a < 2 ^ 32) addrs × (text ≡ flat_map addr_text addrs ++ (10 ∷ rest))
addrs_take laws zero text addrs rest found = absurd cc
addrs_take laws (suc k) text addrs rest found =
    chosen (after_front (10 ∷ []) text) _ _ (addrs, rest) found
    (λ tail newline e.
    let both : ([] ≡ addrs) × (tail ≡ rest) = some_pair_parts _ _ _ _ e in
    let line : text ≡ (10 ∷ []) ++ tail = (laws.front (10 ∷ []) text tail).0 newline in
    let P : List ℕ → Type 0 = λ xs. All Word xs × (text ≡ flat_map addr_text xs ++ (10 ∷ rest)) in
    subst P both.0 (All-nil Word, rw (line, both.1) refl))
    (λ other. more_found (addr_at text) (addrs_on k) addrs rest other (λ a tail later e1 e2 is.
    let one = addr_takes laws text a tail e1 in
    let more = addrs_take laws k tail later rest e2 in
    let P : List ℕ → Type 0 = λ xs. All Word xs × (text ≡ flat_map addr_text xs ++ (10 ∷ rest)) in
    subst P (sym is) (
      All-cons Word a later one.0 more.0,
      rw (one.1, more.1) (sym (append_assoc (addr_text a) (flat_map addr_text later) (10 ∷ rest))),
    )))

-- addresses that are written are found
pub addrs_again : (laws : TextLaws) (k : ℕ) (addrs rest : List ℕ) → All (λ a. a < 2 ^ 32) addrs → length addrs < k
    → addrs_on k (flat_map addr_text addrs ++ (10 ∷ rest)) ≡ Some (addrs, rest)
addrs_again laws zero addrs rest small deep = absurd (omega arith)
addrs_again laws (suc k) [] rest small deep = rw (front_again laws (10 ∷ []) rest) refl
addrs_again laws (suc k) (a ∷ addrs) rest small deep =
    let tail : List ℕ = flat_map addr_text addrs ++ (10 ∷ rest) in
    let joined : (addr_text a ++ flat_map addr_text addrs) ++ (10 ∷ rest)
    ≡ addr_text a ++ (flat_map addr_text addrs ++ (10 ∷ rest)) =
    append_assoc (addr_text a) (flat_map addr_text addrs) (10 ∷ rest) in
    let no_end : after_front (10 ∷ []) (addr_text a ++ (flat_map addr_text addrs ++ (10 ∷ rest))) ≡ None =
    front_fails laws 10 32 [] _ (λ e. omega (arith, e)) in
    rw (
      joined,
      no_end,
      addr_again laws a (flat_map addr_text addrs ++ (10 ∷ rest)) (All-head Word a addrs small),
      addrs_again laws k addrs rest (All-tail Word a addrs small) (omega arith),
    ) refl

addrs_length : (addrs : List ℕ) → length addrs ≤ length (flat_map addr_text addrs)
addrs_length [] = omega arith
addrs_length (a ∷ addrs) = omega (arith, addrs_length addrs, length-append (addr_text a) (flat_map addr_text addrs))

pub at_takes : (laws : TextLaws) (text addrs rest : List ℕ) → addrs_at text ≡ Some (addrs, rest)
    → All (λ a. a < 2 ^ 32) addrs × (text ≡ flat_map addr_text addrs ++ (10 ∷ rest))
unfolding addrs_at
at_takes laws text addrs rest found = addrs_take laws (length text) text addrs rest found

pub at_again : (laws : TextLaws) (addrs rest : List ℕ) → All (λ a. a < 2 ^ 32) addrs
    → addrs_at (flat_map addr_text addrs ++ (10 ∷ rest)) ≡ Some (addrs, rest)
unfolding addrs_at
at_again laws addrs rest small =
    addrs_again laws (length (flat_map addr_text addrs ++ (10 ∷ rest))) addrs rest small
    (omega (arith, length-append (flat_map addr_text addrs) (10 ∷ rest), addrs_length addrs))

-- the loop of the reader: addresses put before those that are still to be found
abbrev pub with_addrs : List ℕ → Option (List ℕ × List ℕ) → Option (List ℕ × List ℕ)
with_addrs front None = None
with_addrs front (Some found) = Some (front ++ found.0, found.1)

pub ends : (n i : ℕ) (front rest after : List ℕ) → i < n → after_front (10 ∷ []) rest ≡ Some after
    → with_addrs front (addrs_on (n - i) rest) ≡ Some (front, after)
ends n i front rest after inside newline =
    let k : n - i ≡ suc (n - (i + 1)) = omega arith in
    rw (k, newline) (ap (λ xs. Some (xs, after)) (append-nil front))

pub stops : (n i : ℕ) (front rest : List ℕ) → i < n → after_front (10 ∷ []) rest ≡ None → addr_at rest ≡ None
    → with_addrs front (addrs_on (n - i) rest) ≡ None
stops n i front rest inside newline none =
    let k : n - i ≡ suc (n - (i + 1)) = omega arith in
    rw (k, newline, none) refl

put_more : (front : List ℕ) (a : ℕ) (o : Option (List ℕ × List ℕ))
    → with_addrs front (put_before a o) ≡ with_addrs (front ++ (a ∷ [])) o
put_more front a None = refl
put_more front a (Some found) = ap (λ xs. Some (xs, found.1)) (sym (append_assoc front (a ∷ []) found.0))

pub goes : (n i : ℕ) (front rest : List ℕ) (a : ℕ) (after : List ℕ) → i < n → after_front (10 ∷ []) rest ≡ None
    → addr_at rest ≡ Some (a, after)
    → with_addrs front (addrs_on (n - i) rest) ≡ with_addrs (front ++ (a ∷ [])) (addrs_on (n - (i + 1)) after)
goes n i front rest a after inside newline one =
    let k : n - i ≡ suc (n - (i + 1)) = omega arith in
    rw (k, newline, one) (put_more front a (addrs_on (n - (i + 1)) after))

pub none_left : (n i : ℕ) (front rest : List ℕ) → n ≤ i → with_addrs front (addrs_on (n - i) rest) ≡ None
none_left n i front rest past =
    let k : n - i ≡ 0 = omega arith in
    rw k refl

pub begun : (o : Option (List ℕ × List ℕ)) → with_addrs [] o ≡ o
begun None = refl
begun (Some found) = refl
