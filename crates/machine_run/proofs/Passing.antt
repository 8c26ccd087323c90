-- Output on its way to a sink, through a buffer.
use Rattle.std.proofs.Common.{◌≡◌, ℕ, ◌+◌, List, [], ◌++◌, length, take, drop, refl, ap, sym, subst, ◌∙◌, append_assoc}
use Rattle.std.proofs.Common.{append-nil}
use Rattle.std.specs.Prelude.{Option, Some, None, Result, Ok, Err, OnErr}
use Rattle.std.specs.Io.KnownBytes.{append_known}
use Rattle.std.proofs.Math.Seq.{take-append-add, take-append_seam, take-add}
use Rattle.std.proofs.lemmas.List.{take-append-drop}
use Rattle.halo_outside.specs.Seen.{Appends, AppendsPrefix}
use Rattle.machine_run.specs.Output.{Passes}

-- two texts, one after the other
appended_twice : (told : Option (List ℕ)) (xs ys : List ℕ)
    → append_known (append_known told xs) ys ≡ append_known told (xs ++ ys)
appended_twice None xs ys = refl
appended_twice (Some held) xs ys = ap (λ bytes. Some bytes) (append_assoc held xs ys)

appended_none : (told : Option (List ℕ)) → append_known told [] ≡ told
appended_none None = refl
appended_none (Some held) = ap (λ bytes. Some bytes) (append-nil held)

pub appends_both : (a b c : Option (List ℕ)) (xs ys : List ℕ) → Appends a b xs → Appends b c ys → Appends a c (xs ++ ys)
appends_both a b c xs ys f g = g ∙ ap (λ told. append_known told ys) f ∙ appended_twice a xs ys

-- nothing happened
pub passes_none : (a : Option (List ℕ)) (p : List ℕ) → Passes a a p p []
passes_none a p = ([], sym (appended_none a), sym (append-nil p))

-- more bytes, behind those before
pub passes_more : (a b c : Option (List ℕ)) (p q r xs ys : List ℕ) → Passes a b p q xs → Passes b c q r ys
    → Passes a c p r (xs ++ ys)
passes_more a b c p q r xs ys (sent, f, e) (more, g, d) = (sent ++ more, appends_both a b c sent more f g, joined)
  where
    joined : (sent ++ more) ++ r ≡ p ++ (xs ++ ys)
    joined = append_assoc sent more r ∙ ap (λ x. sent ++ x) d ∙ sym (append_assoc sent q ys)
        ∙ ap (λ x. x ++ ys) e ∙ append_assoc p xs ys

-- more bytes, of which a part went to the sink
pub passes_part : (a b c : Option (List ℕ)) (p q xs ys : List ℕ) → Passes a b p q xs → AppendsPrefix b c (q ++ ys)
    → AppendsPrefix a c (p ++ (xs ++ ys))
passes_part a b c p q xs ys (sent, f, e) (count, g) =
    (length sent + count, subst (λ x. Appends a c x) part (appends_both a b c sent (take count (q ++ ys)) f g))
  where
    part : sent ++ take count (q ++ ys) ≡ take (length sent + count) (p ++ (xs ++ ys))
    part = sym (take-append-add sent (q ++ ys) count)
        ∙ ap (λ x. take (length sent + count) x)
        (sym (append_assoc sent q ys) ∙ ap (λ x. x ++ ys) e ∙ append_assoc p xs ys)

-- all of the buffer went to the sink
pub passes_all : (a b : Option (List ℕ)) (p : List ℕ) → Appends a b p → Passes a b p [] []
passes_all a b p h = (p, h, refl)

-- bytes went to the buffer alone
pub passes_held : (a : Option (List ℕ)) (p q xs : List ℕ) → q ≡ p ++ xs → Passes a a p q xs
passes_held a p q xs e = ([], sym (appended_none a), e)

-- the buffer was made room in, and took some of the bytes
pub passes_taken : (a b c : Option (List ℕ)) (p q room r w : List ℕ) (i n : ℕ) → Passes a b p q (take i w)
    → Passes b c q room []
    → r ≡ room ++ take n (drop i w) → Passes a c p r (take (i + n) w)
passes_taken a b c p q room r w i n before made taken =
    let both = passes_more a c c p room r (take i w ++ []) (take n (drop i w))
    (passes_more a b c p q room (take i w) [] before made) (passes_held c room r (take n (drop i w)) taken) in
    let whole : (take i w ++ []) ++ take n (drop i w) ≡ take (i + n) w =
    ap (λ x. x ++ take n (drop i w)) (append-nil (take i w)) ∙ sym (take-add i n w) in
    subst (λ x. Passes a c p r x) whole both

prefix_longer : (b c : Option (List ℕ)) (q ys : List ℕ) → AppendsPrefix b c q → AppendsPrefix b c (q ++ ys)
prefix_longer b c q ys (count, h) =
    let front : List ℕ = take count q in
    let whole : q ++ ys ≡ front ++ (drop count q ++ ys) =
    ap (λ x. x ++ ys) (sym (take-append-drop count q)) ∙ append_assoc front (drop count q) ys in
    let same : take (length front) (q ++ ys) ≡ front =
    ap (λ x. take (length front) x) whole ∙ take-append_seam front (drop count q ++ ys) in
    (length front, subst (λ x. Appends b c x) (sym same) h)

-- the buffer could not be written
pub passes_failed : (a b c : Option (List ℕ)) (p q w : List ℕ) (i : ℕ) → Passes a b p q (take i w) → AppendsPrefix b c q
    → AppendsPrefix a c (p ++ w)
passes_failed a b c p q w i before failed =
    subst (λ x. AppendsPrefix a c (p ++ x)) (take-append-drop i w)
    (passes_part a b c p q (take i w) (drop i w) before (prefix_longer b c q (drop i w) failed))

pub on_err_is : {T E P : Type 0} (r : Result T E) → P → OnErr r P
on_err_is (Ok x) h = tt
on_err_is (Err e) h = h
