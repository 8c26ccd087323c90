-- The lines of `self`, each number appended to what was written before.
use Rattle.std.proofs.Common.{◌≡◌, ◌∙◌, ℕ, List, [], ◌++◌, codes, ap, append_assoc}
use Rattle.halo_cli.specs.SelfRun.{number_between, self_text}

onto : (old new text more : List ℕ) → new ≡ old ++ text → new ++ more ≡ old ++ (text ++ more)
onto old new text more is = ap (λ t. t ++ more) is ∙ append_assoc old text more

-- the same number in another form
number_as : (old new before behind : List ℕ) (n m : ℕ) → new ≡ old ++ number_between before n behind → n ≡ m
    → new ≡ old ++ number_between before m behind
number_as old new before behind n m is same = is ∙ ap (λ k. old ++ number_between before k behind) same

-- seven texts behind each other
appended : (t t1 t2 t3 t4 t5 t6 t7 a b c d e f g : List ℕ) → t ≡ [] → t1 ≡ t ++ a → t2 ≡ t1 ++ b → t3 ≡ t2 ++ c
    → t4 ≡ t3 ++ d → t5 ≡ t4 ++ e → t6 ≡ t5 ++ f → t7 ≡ t6 ++ g
    → t7 ≡ a ++ (b ++ (c ++ (d ++ (e ++ (f ++ g)))))
appended t t1 t2 t3 t4 t5 t6 t7 a b c d e f g at at1 at2 at3 at4 at5 at6 at7 =
    at7 ∙ (onto t5 t6 f g at6
    ∙ (onto t4 t5 e (f ++ g) at5
    ∙ (onto t3 t4 d (e ++ (f ++ g)) at4
    ∙ (onto t2 t3 c (d ++ (e ++ (f ++ g))) at3
    ∙ (onto t1 t2 b (c ++ (d ++ (e ++ (f ++ g)))) at2
    ∙ (onto t t1 a (b ++ (c ++ (d ++ (e ++ (f ++ g))))) at1
    ∙ ap (λ s. s ++ (a ++ (b ++ (c ++ (d ++ (e ++ (f ++ g))))))) at))))))

pub lines_are : (nodes status steps grants groups rows result status' steps' grants' groups' rows' result' : ℕ)
    (t t1 t2 t3 t4 t5 t6 t7 : List ℕ) → t ≡ []
    → t1 ≡ t ++ number_between (codes "self ") nodes (codes "\n")
    → t2 ≡ t1 ++ number_between (codes "source exit ") status' (codes " after ") → status' ≡ status
    → t3 ≡ t2 ++ number_between [] steps' (codes " steps\n") → steps' ≡ steps
    → t4 ≡ t3 ++ number_between (codes "grants ") grants' (codes "\n") → grants' ≡ grants
    → t5 ≡ t4 ++ number_between (codes "groups ") groups' (codes "\n") → groups' ≡ groups
    → t6 ≡ t5 ++ number_between (codes "rows ") rows' (codes "\n") → rows' ≡ rows
    → t7 ≡ t6 ++ number_between (codes "result exit ") result' (codes "\n") → result' ≡ result
    → t7 ≡ self_text nodes status steps grants groups rows result
lines_are nodes status steps grants groups rows result status' steps' grants' groups' rows' result'
    t t1 t2 t3 t4 t5 t6 t7 at at1 at2 same2 at3 same3 at4 same4 at5 same5 at6 same6 at7 same7 =
    appended t t1 t2 t3 t4 t5 t6 t7 _ _ _ _ _ _ _ at at1
    (number_as t1 t2 (codes "source exit ") (codes " after ") status' status at2 same2)
    (number_as t2 t3 [] (codes " steps\n") steps' steps at3 same3)
    (number_as t3 t4 (codes "grants ") (codes "\n") grants' grants at4 same4)
    (number_as t4 t5 (codes "groups ") (codes "\n") groups' groups at5 same5)
    (number_as t5 t6 (codes "rows ") (codes "\n") rows' rows at6 same6)
    (number_as t6 t7 (codes "result exit ") (codes "\n") result' result at7 same7)
