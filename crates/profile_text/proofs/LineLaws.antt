-- Lines: what is read is what is written.
use Rattle.std.proofs.Common.{◌≡◌, ◌<◌, ◌≤◌, ◌-◌, ◌^◌, ℕ, List, [], ◌∷◌, ◌++◌, Option, Some, None, refl, subst, arith}
use Rattle.std.proofs.Common.{append_assoc}
use Rattle.std.specs.Prelude.{All, codes}
use Rattle.std.specs.List.{flat_map}
use Rattle.std.specs.Fmt.{decimal}
use Rattle.std.proofs.lemmas.Option.{some_pair_parts}
use Rattle.text_fields.specs.Reading.{after_front, number_at, leading_at, GoesOnWithNoDigit}
use Rattle.plan_core.specs.declared.profiles.Edge.{Edge}
use Rattle.profile_text.specs.declared.lines.ContextLine.{ContextLine}
use Rattle.profile_text.specs.declared.lines.TextLine.{TextLine}
use Rattle.profile_text.specs.declared.lines.TextLine.TheVariants.{Head, Distance, Granted, Joined, End}
use Rattle.profile_text.specs.Profile.{addr_text, line_text}
use Rattle.profile_text.specs.Reading.{distance_at, addrs_at, numbers_at, context_at, edge_at, word_line_at, line_at}
use Rattle.profile_text.proofs.Laws.{TextLaws, bound, chosen, front_fails, front_again}
use Rattle.profile_text.proofs.Addresses.{at_takes, at_again}

-- the numbers of a line are in the ranges of the grammar
abbrev pub LineFits : TextLine → Type 0
LineFits Head = Unit {0}
LineFits (Distance d) = d ≤ 4096
LineFits (Granted c) = (c.number < 2 ^ 32 - 1) × (c.grants ≤ 2 ^ 44) × (c.accesses ≤ 2 ^ 44)
    × All (λ a. a < 2 ^ 32) c.addrs
LineFits (Joined e) = (e.low < 2 ^ 32) × (e.high < 2 ^ 32) × (e.weight ≤ 2 ^ 44)
LineFits End = Unit {0}

-- each line with a rest behind it, as a front and its fields in turn
head_shape : (rest : List ℕ) → line_text Head ++ rest ≡ (codes "halo-profile 1" ++ (10 ∷ [])) ++ rest
unfolding line_text
head_shape rest = refl

end_shape : (rest : List ℕ) → line_text End ++ rest ≡ (codes "end" ++ (10 ∷ [])) ++ rest
unfolding line_text
end_shape rest = refl

distance_shape : (d : ℕ) (rest : List ℕ) → line_text (Distance d) ++ rest
    ≡ codes "distance " ++ (decimal d ++ (10 ∷ rest))
unfolding line_text
distance_shape d rest = simp append_assoc

context_shape : (c : ContextLine) (rest : List ℕ) → line_text (Granted c) ++ rest
    ≡ codes "context " ++ (decimal c.number
    ++ (32 ∷ (decimal c.grants ++ (32 ∷ (decimal c.accesses ++ (flat_map addr_text c.addrs ++ (10 ∷ rest)))))))
unfolding line_text
context_shape c rest = simp append_assoc

edge_shape : (e : Edge) (rest : List ℕ) → line_text (Joined e) ++ rest
    ≡ codes "edge " ++ (decimal e.low ++ (32 ∷ (decimal e.high ++ (32 ∷ (decimal e.weight ++ (10 ∷ rest))))))
unfolding line_text
edge_shape e rest = simp append_assoc

-- a line that is found fits, and is written there
abbrev Takes : List ℕ → TextLine → List ℕ → Type 0
Takes text l rest = LineFits l × (text ≡ line_text l ++ rest)

other_second : (xs ys : List ℕ) → 101 ∷ 110 ∷ xs ≡ 101 ∷ 100 ∷ ys → ⊥
other_second xs ys e = let n : ◌≡◌ {A = ℕ} 110 100 = cc in omega (arith, n)

module _ (laws : TextLaws) where
  distance_takes : (text fields : List ℕ) (l : TextLine) (rest : List ℕ)
      → after_front (codes "distance ") text ≡ Some fields → distance_at fields ≡ Some (l, rest) → Takes text l rest
  unfolding distance_at
  distance_takes text fields l rest front found =
      bound (number_at 10 4096 fields) _ _ found (λ distance e1 t1.
      let both : (Distance distance.0 ≡ l) × (distance.1 ≡ rest) = some_pair_parts _ _ _ _ t1 in
      let number = (laws.field 10 4096 distance.0 fields distance.1 (omega arith) (omega arith)).0 e1 in
      let word = (laws.front (codes "distance ") text fields).0 front in
      let P : TextLine → Type 0 = λ k. Takes text k rest in
      let text_is : text ≡ line_text (Distance distance.0) ++ rest =
      rw (distance_shape distance.0 rest) (cc (word, number.1, both.1)) in
      subst P both.0 (number.0, text_is))

  context_takes : (text fields : List ℕ) (l : TextLine) (rest : List ℕ)
      → after_front (codes "context ") text ≡ Some fields → context_at fields ≡ Some (l, rest) → Takes text l rest
  unfolding context_at numbers_at
  context_takes text fields l rest front found =
      bound (numbers_at fields) _ _ found (λ numbers e1 t1.
      bound (addrs_at numbers.1) _ _ t1 (λ addrs e2 t2.
      bound (number_at 32 4294967294 fields) _ _ e1 (λ number n1 m1.
      bound (number_at 32 17592186044416 number.1) _ _ m1 (λ grants n2 m2.
      bound (leading_at 17592186044416 grants.1) _ _ m2 (λ accesses n3 m3.
      let parts : ((number.0, grants.0, accesses.0) ≡ numbers.0) × (accesses.1 ≡ numbers.1) =
      some_pair_parts _ _ _ _ m3 in
      let c : ContextLine = record {
        number = numbers.0.0;
        grants = numbers.0.1;
        accesses = numbers.0.2;
        addrs =
            addrs.0;
      } in
      let both : (Granted c ≡ l) × (addrs.1 ≡ rest) = some_pair_parts _ _ _ _ t2 in
      let p0 : number.0 ≡ numbers.0.0 = cc in
      let p1 : grants.0 ≡ numbers.0.1 = cc in
      let p2 : accesses.0 ≡ numbers.0.2 = cc in
      let first = (laws.field 32 4294967294 number.0 fields number.1 (omega arith) (omega arith)).0 n1 in
      let second = (laws.field 32 17592186044416 grants.0 number.1 grants.1 (omega arith) (omega arith)).0 n2 in
      let third = (laws.leading 17592186044416 accesses.0 grants.1 accesses.1 (omega arith)).0 n3 in
      let list = at_takes laws numbers.1 addrs.0 addrs.1 e2 in
      let word = (laws.front (codes "context ") text fields).0 front in
      let P : TextLine → Type 0 = λ k. Takes text k rest in
      let text_is : text ≡ line_text (Granted c) ++ rest =
      rw (context_shape c rest) (cc (word, first.1, second.1, third.1, list.1, both.1, p0, p1, p2, parts.1)) in
      subst P both.0 (
        (omega (arith, first.0, p0), omega (arith, second.0, p1), omega (arith, third.0, p2), list.0),
        text_is,
      ))))))

  edge_takes : (text fields : List ℕ) (l : TextLine) (rest : List ℕ) → after_front (codes "edge ") text ≡ Some fields
      → edge_at fields ≡ Some (l, rest) → Takes text l rest
  unfolding edge_at
  edge_takes text fields l rest front found =
      bound (number_at 32 4294967295 fields) _ _ found (λ low e1 t1.
      bound (number_at 32 4294967295 low.1) _ _ t1 (λ high e2 t2.
      bound (number_at 10 17592186044416 high.1) _ _ t2 (λ weight e3 t3.
      let e : Edge = record { low = low.0; high = high.0; weight = weight.0 } in
      let both : (Joined e ≡ l) × (weight.1 ≡ rest) = some_pair_parts _ _ _ _ t3 in
      let first = (laws.field 32 4294967295 low.0 fields low.1 (omega arith) (omega arith)).0 e1 in
      let second = (laws.field 32 4294967295 high.0 low.1 high.1 (omega arith) (omega arith)).0 e2 in
      let third = (laws.field 10 17592186044416 weight.0 high.1 weight.1 (omega arith) (omega arith)).0 e3 in
      let word = (laws.front (codes "edge ") text fields).0 front in
      let P : TextLine → Type 0 = λ k. Takes text k rest in
      let text_is : text ≡ line_text (Joined e) ++ rest =
      rw (edge_shape e rest) (cc (word, first.1, second.1, third.1, both.1)) in
      subst P both.0 ((omega (arith, first.0), omega (arith, second.0), omega (arith, third.0)), text_is))))

  word_takes : (text : List ℕ) (l : TextLine) (rest : List ℕ) → word_line_at text ≡ Some (l, rest) → Takes text l rest
  unfolding word_line_at
  word_takes text l rest found =
      let P : TextLine → Type 0 = λ k. Takes text k rest in
      chosen _ _ _ _ found
      (λ tail front e.
      let both : (Head ≡ l) × (tail ≡ rest) = some_pair_parts _ _ _ _ e in
      let word = (laws.front (codes "halo-profile 1" ++ (10 ∷ [])) text tail).0 front in
      let text_is : text ≡ line_text Head ++ rest = rw (head_shape rest, ← both.1) word in
      subst P both.0 (tt, text_is))
      (λ other. chosen _ _ _ _ other
      (λ tail front e.
      let both : (End ≡ l) × (tail ≡ rest) = some_pair_parts _ _ _ _ e in
      let word = (laws.front (codes "end" ++ (10 ∷ [])) text tail).0 front in
      let text_is : text ≡ line_text End ++ rest = rw (end_shape rest, ← both.1) word in
      subst P both.0 (tt, text_is))
      (λ none. absurd cc))

  pub line_takes : (text : List ℕ) (l : TextLine) (rest : List ℕ) → line_at text ≡ Some (l, rest)
      → LineFits l × (text ≡ line_text l ++ rest)
  unfolding line_at
  line_takes text l rest found =
      chosen _ _ _ _ found (λ r front e. edge_takes text r l rest front e)
      (λ other. chosen _ _ _ _ other (λ r front e. context_takes text r l rest front e)
      (λ last. chosen _ _ _ _ last (λ r front e. distance_takes text r l rest front e)
      (λ word. word_takes text l rest word)))

  no_digit : (addrs rest : List ℕ) → GoesOnWithNoDigit (flat_map addr_text addrs ++ (10 ∷ rest))
  no_digit [] rest = refl
  no_digit (a ∷ addrs) rest = refl

  field_again : (end max n : ℕ) (rest : List ℕ) → end < 48 → n ≤ max → max < 2 ^ 59
      → number_at end max (decimal n ++ (end ∷ rest)) ≡ Some (n, rest)
  field_again end max n rest low fits small =
      (laws.field end max n (decimal n ++ (end ∷ rest)) rest low small).1 (fits, refl)

  -- "end" and "edge" have one first byte and another second one
  end_is_no_edge : (rest : List ℕ) → after_front (codes "edge ") ((codes "end" ++ (10 ∷ [])) ++ rest) ≡ None
  end_is_no_edge rest = at (after_front (codes "edge ") ((codes "end" ++ (10 ∷ [])) ++ rest)) refl
    where
      at : (o : Option (List ℕ)) → after_front (codes "edge ") ((codes "end" ++ (10 ∷ [])) ++ rest) ≡ o → o ≡ None
      at None is = refl
      at (Some tail) is =
          let whole : (codes "end" ++ (10 ∷ [])) ++ rest ≡ codes "edge " ++ tail =
          (laws.front (codes "edge ") ((codes "end" ++ (10 ∷ [])) ++ rest) tail).0 is in
          absurd (other_second _ _ whole)

  -- a line that fits and is written is found
  pub line_again : (l : TextLine) (rest : List ℕ) → LineFits l → line_at (line_text l ++ rest) ≡ Some (l, rest)
  unfolding line_at distance_at context_at numbers_at edge_at word_line_at
  line_again Head rest fits =
      let tail = (codes "halo-profile 1" ++ (10 ∷ [])) ++ rest in
      let no_edge : after_front (codes "edge ") tail ≡ None = front_fails laws _ _ _ _ (λ e. omega (arith, e)) in
      let no_context : after_front (codes "context ") tail ≡ None = front_fails laws _ _ _ _ (λ e. omega (arith, e)) in
      let no_distance : after_front (codes "distance ") tail ≡ None =
      front_fails laws _ _ _ _ (λ e. omega (arith, e)) in
      rw (
        head_shape rest,
        no_edge,
        no_context,
        no_distance,
        front_again laws (codes "halo-profile 1" ++ (10 ∷ [])) rest,
      ) refl
  line_again (Distance d) rest fits =
      let fields = decimal d ++ (10 ∷ rest) in
      let no_edge : after_front (codes "edge ") (codes "distance " ++ fields) ≡ None =
      front_fails laws _ _ _ _ (λ e. omega (arith, e)) in
      let no_context : after_front (codes "context ") (codes "distance " ++ fields) ≡ None =
      front_fails laws _ _ _ _ (λ e. omega (arith, e)) in
      rw (
        distance_shape d rest,
        no_edge,
        no_context,
        front_again laws (codes "distance ") fields,
        field_again 10 4096 d rest (omega arith) fits (omega arith),
      ) refl
  line_again (Granted c) rest fits =
      let fourth = flat_map addr_text c.addrs ++ (10 ∷ rest) in
      let third = decimal c.accesses ++ fourth in
      let second = decimal c.grants ++ (32 ∷ third) in
      let first = decimal c.number ++ (32 ∷ second) in
      let no_edge : after_front (codes "edge ") (codes "context " ++ first) ≡ None =
      front_fails laws _ _ _ _ (λ e. omega (arith, e)) in
      rw (
        context_shape c rest,
        no_edge,
        front_again laws (codes "context ") first,
        field_again 32 4294967294 c.number second (omega arith) (omega (arith, fits.0)) (omega arith),
        field_again 32 17592186044416 c.grants third (omega arith) (omega (arith, fits.1)) (omega arith),
        (laws.leading 17592186044416 c.accesses third fourth (omega arith)).1 (
          omega (arith, fits.2),
          refl,
          no_digit c.addrs rest,
        ),
        at_again laws c.addrs rest fits.3,
      ) refl
  line_again (Joined e) rest fits =
      let third = decimal e.weight ++ (10 ∷ rest) in
      let second = decimal e.high ++ (32 ∷ third) in
      let first = decimal e.low ++ (32 ∷ second) in
      rw (
        edge_shape e rest,
        front_again laws (codes "edge ") first,
        field_again 32 4294967295 e.low second (omega arith) (omega (arith, fits.0)) (omega arith),
        field_again 32 4294967295 e.high third (omega arith) (omega (arith, fits.1)) (omega arith),
        field_again 10 17592186044416 e.weight rest (omega arith) (omega (arith, fits.2)) (omega arith),
      ) refl
  line_again End rest fits =
      let tail = (codes "end" ++ (10 ∷ [])) ++ rest in
      let no_edge : after_front (codes "edge ") tail ≡ None = end_is_no_edge rest in
      let no_context : after_front (codes "context ") tail ≡ None = front_fails laws _ _ _ _ (λ e. omega (arith, e)) in
      let no_distance : after_front (codes "distance ") tail ≡ None =
      front_fails laws _ _ _ _ (λ e. omega (arith, e)) in
      let no_head : after_front (codes "halo-profile 1" ++ (10 ∷ [])) tail ≡ None =
      front_fails laws _ _ _ _ (λ e. omega (arith, e)) in
      rw (
        end_shape rest,
        no_edge,
        no_context,
        no_distance,
        no_head,
        front_again laws (codes "end" ++ (10 ∷ [])) rest,
      ) refl

  -- two lines at one place are one line
  pub one_line : (k l : TextLine) (x y : List ℕ) → LineFits k → LineFits l → line_text k ++ x ≡ line_text l ++ y
      → (k ≡ l) × (x ≡ y)
  one_line k l x y k_fits l_fits same =
      let here : line_at (line_text k ++ x) ≡ Some (k, x) = line_again k x k_fits in
      let there : line_at (line_text l ++ y) ≡ Some (l, y) = line_again l y l_fits in
      let joined : ◌≡◌ {A = Option (TextLine × List ℕ)} (Some (k, x)) (Some (l, y)) = cc in
      some_pair_parts k l x y joined

-- a line has a first byte
pub line_some : (l : TextLine) → (c : ℕ) × (cs : List ℕ) × (line_text l ≡ c ∷ cs)
unfolding line_text
line_some Head = (_, _, refl)
line_some (Distance d) = (_, _, refl)
line_some (Granted c) = (_, _, refl)
line_some (Joined e) = (_, _, refl)
line_some End = (_, _, refl)
