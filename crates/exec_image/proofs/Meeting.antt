-- What meets parts in order meets the parts that they stand for.
use Rattle.std.proofs.Common.{◌≡◌, ℕ, ◌&&◌, Bool, true, false, List, get_or, nat_le, nat_lt, refl, sym, ◌∙◌, arith}
use Rattle.std.specs.List.{All, list_any}
use Rattle.std.proofs.lemmas.Bool.Decides.{nat_tests}
use Rattle.std.proofs.lemmas.List.Folds.{Any-from_list_any, list_any-from_Any}
use Rattle.exec_image.specs.declared.parts.Part.{Part}
use Rattle.exec_image.specs.Parts.{StandsFor, is_meeting, is_within}

wider : (ps pe qs qe from to : ℕ) → (nat_lt ps to && nat_lt from pe) ≡ true → (nat_le qs ps && nat_le pe qe) ≡ true
    → (nat_lt qs to && nat_lt from qe) ≡ true
wider ps pe qs qe from to h w = grind (arith, nat_tests)

-- parts in which those of a list lie meet what these meet
also_meets : (from to : ℕ) (xs ys : List Part) → All (λ p. list_any (is_within p) ys ≡ true) xs
    → list_any (is_meeting from to) xs ≡ true
    → list_any (is_meeting from to) ys ≡ true
also_meets from to xs ys h e =
    let (k, x, l, g, m) = Any-from_list_any (is_meeting from to) xs e in
    let w : list_any (is_within (get_or xs k x)) ys ≡ true = h k x l in
    let v : list_any (is_within x) ys ≡ true = rw (sym g) w in
    let (j, y, n, f, u) = Any-from_list_any (is_within x) ys v in
    list_any-from_Any (is_meeting from to) ys (j, y, n, f, wider x.start x.end y.start y.end from to m u)

pub meets_same : (from to : ℕ) (parts sorted : List Part) → StandsFor parts sorted
    → list_any (is_meeting from to) sorted ≡ list_any (is_meeting from to) parts
meets_same from to parts sorted h = decide (list_any (is_meeting from to) sorted) (list_any (is_meeting from to) parts)
    refl refl
  where
    decide : (b c : Bool) → list_any (is_meeting from to) sorted ≡ b → list_any (is_meeting from to) parts ≡ c
        → list_any (is_meeting from to) sorted ≡ list_any (is_meeting from to) parts
    decide true true e f = e ∙ sym f
    decide false false e f = e ∙ sym f
    decide true false e f = let g : true ≡ false = sym (also_meets from to sorted parts h.sound e) ∙ f in absurd (cc)
    decide false true e f = let g : true ≡ false = sym (also_meets from to parts sorted h.whole f) ∙ e in absurd (cc)
