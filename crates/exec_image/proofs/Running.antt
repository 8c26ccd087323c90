-- Parts in order of their starts, each with the greatest end so far: they stand for the parts.
use Rattle.std.proofs.Common.{◌≡◌, ℕ, zero, suc, ◌<◌, ◌≤◌, ◌⊎◌, ◌&&◌, true, List, [], ◌∷◌, get_or, length, max, nat_le}
use Rattle.std.proofs.Common.{refl, ap, ◌∙◌, inl, inr, arith, Vec, Global, Result, Ok, Err, IfOk}
use Rattle.std.specs.List.{list_any}
use Rattle.std.specs.List.Sorted.{IsNonDecreasingBy, IsPermutation}
use Rattle.std.proofs.lemmas.Bool.{cases_lt}
use Rattle.std.proofs.lemmas.Bool.Decides.{nat_tests}
use Rattle.std.proofs.lemmas.List.Folds.{list_any_at}
use Rattle.std.proofs.lemmas.List.Sorted.{All-permutation, IsPermutation-sym, list_any-IsPermutation}
use Rattle.exec_image.specs.declared.parts.Part.{Part}
use Rattle.exec_image.specs.Parts.{StandsFor, is_within, running}

length-running : (e : ℕ) (ps : List Part) → length (running e ps) ≡ length ps
length-running e [] = refl
length-running e (p ∷ ps) = ap suc (length-running (max e p.end) ps)

start_at : (e : ℕ) (ps : List Part) (k : ℕ) (d : Part) → (get_or (running e ps) k d).start ≡ (get_or ps k d).start
start_at e [] k d = refl
start_at e (p ∷ ps) zero d = refl
start_at e (p ∷ ps) (suc k) d = start_at (max e p.end) ps k d

end_from : (e : ℕ) (ps : List Part) (k : ℕ) (d : Part) → k < length ps → e ≤ (get_or (running e ps) k d).end
end_from e [] k d l = absurd (omega arith)
end_from e (p ∷ ps) zero d l = omega arith
end_from e (p ∷ ps) (suc k) d l = let h = end_from (max e p.end) ps k d (omega arith) in omega (arith, h)

end_of : (e : ℕ) (ps : List Part) (k : ℕ) (d : Part) → k < length ps
    → (get_or ps k d).end ≤ (get_or (running e ps) k d).end
end_of e [] k d l = absurd (omega arith)
end_of e (p ∷ ps) zero d l = omega arith
end_of e (p ∷ ps) (suc k) d l = end_of (max e p.end) ps k d (omega arith)

end_rises : (e : ℕ) (ps : List Part) (i j : ℕ) (d : Part) → i ≤ j → j < length ps
    → (get_or (running e ps) i d).end ≤ (get_or (running e ps) j d).end
end_rises e [] i j d h l = absurd (omega arith)
end_rises e (p ∷ ps) zero zero d h l = omega arith
end_rises e (p ∷ ps) zero (suc j) d h l = end_from (max e p.end) ps j d (omega arith)
end_rises e (p ∷ ps) (suc i) zero d h l = absurd (omega arith)
end_rises e (p ∷ ps) (suc i) (suc j) d h l = end_rises (max e p.end) ps i j d (omega arith) (omega arith)

-- an end is at most the first bound, or that of a part before
end_is : (e : ℕ) (ps : List Part) (k : ℕ) (d : Part) → k < length ps
    → ((get_or (running e ps) k d).end ≤ e)
    ⊎ ((j : ℕ) × (j ≤ k) × ((get_or (running e ps) k d).end ≤ (get_or ps j d).end))
end_is e [] k d l = absurd (omega arith)
end_is e (p ∷ ps) zero d l = elim (cases_lt e p.end) [
  | inl a ↦ inr (0, omega arith, omega arith)
  | inr a ↦ inl (omega arith)
]
end_is e (p ∷ ps) (suc k) d l = elim (end_is (max e p.end) ps k d (omega arith)) [
  | inl a ↦ elim (cases_lt e p.end) [
    | inl b ↦ inr (0, omega arith, omega arith)
    | inr b ↦ inl (omega arith)
  ]
  | inr (j, h, m) ↦ inr (suc j, omega arith, m)
]

within : (p q : Part) → q.start ≤ p.start → p.end ≤ q.end → is_within p q ≡ true
within p q a b = tests q.start p.start p.end q.end a b
  where
    tests : (w x y z : ℕ) → w ≤ x → y ≤ z → (nat_le w x && nat_le y z) ≡ true
    tests w x y z a b = grind (arith, nat_tests)

pub running_stands : (ps : List Part) → IsNonDecreasingBy (λ p. p.start) ps → StandsFor ps (running 0 ps)
running_stands ps up =
    record {
      starts = λ i j d h l. let m : j < length ps = omega (arith, l, length-running 0 ps) in
          rw (start_at 0 ps i d, start_at 0 ps j d) (up i j d h m);
      ends = λ i j d h l. end_rises 0 ps i j d h (omega (arith, l, length-running 0 ps));
      sound = λ k d l.
          let m : k < length ps = omega (arith, l, length-running 0 ps) in
          elim (end_is 0 ps k d m) [
            | inl a ↦ list_any_at (is_within (get_or (running 0 ps) k d)) ps k d m
                (within (get_or (running 0 ps) k d) (get_or ps k d) (rw (start_at 0 ps k d) (omega arith))
                (omega (arith, a)))
            | inr (j, b, e) ↦
                list_any_at (is_within (get_or (running 0 ps) k d)) ps j d (omega (arith, b, m))
                (within (get_or (running 0 ps) k d) (get_or ps j d) (rw (start_at 0 ps k d) (up j k d b m)) e)
          ];
      whole = λ k d l.
          list_any_at (is_within (get_or ps k d)) (running 0 ps) k d (omega (arith, l, length-running 0 ps))
          (within (get_or ps k d) (get_or (running 0 ps) k d) (rw (start_at 0 ps k d) (omega arith))
          (end_of 0 ps k d l));
    }

-- so they stand for the parts in another order
pub stands_permuted : (xs ps sorted : List Part) → IsPermutation xs ps → StandsFor ps sorted → StandsFor xs sorted
stands_permuted xs ps sorted moved h =
    record {
      starts = h.starts;
      ends = h.ends;
      sound = λ k d l. let e : list_any (is_within (get_or sorted k d)) xs
          ≡ list_any (is_within (get_or sorted k d)) ps = list_any-IsPermutation _ xs ps moved in e ∙ h.sound k d l;
      whole = All-permutation (λ p. list_any (is_within p) sorted ≡ true) ps xs (IsPermutation-sym xs ps moved) h.whole;
    }

-- an answer with these parts is one that stands for those
pub gives : {E : Type 0} (result : Result (Vec Part Global) E) (xs ys : List Part) → StandsFor xs ys
    → IfOk result (λ list. list.items ≡ ys)
    → IfOk result (λ sorted. StandsFor xs sorted.items)
gives (Ok list) xs ys h e = rw e h
gives (Err why) xs ys h e = tt
