-- Weights in a table of pairs, after one of them is raised.
use Rattle.std.proofs.Common.{◌≡◌, ◌<◌, ◌+◌, ℕ, Bool, true, false, cond, List, [], ◌∷◌, Option, Some, None, refl, arith}
use Rattle.std.specs.Prelude.{All, unwrap_or}
use Rattle.std.specs.Map.{lookup, set_value}
use Rattle.std.proofs.lemmas.Bool.Decides.{nat_tests}
use Rattle.std.proofs.lemmas.List.Elements.{All-head, All-tail, All-cons, All-nil}
use Rattle.indexmap.specs.IndexMap.{insert_entry}
use Rattle.affinity.specs.declared.entries.Pair.{Pair}
use Rattle.affinity.specs.State.{same_pair}
use Rattle.affinity.proofs.Sums.{one}

-- equal pairs are equal to the same pairs
same_pair_along : (q p r : Pair) → same_pair p r ≡ true → same_pair q r ≡ same_pair q p
same_pair_along q p r same = grind (arith, nat_tests)

-- a pair that is equal to one of two different pairs is not equal to the other
same_pair_apart : (q p r : Pair) → same_pair p r ≡ false → same_pair q r ≡ true → same_pair q p ≡ false
same_pair_apart q p r other same = grind (arith, nat_tests)

abbrev Table : Type 0
Table = List (Pair × ℕ)

abbrev found : Table → Pair → ℕ
found es q = unwrap_or (lookup (same_pair q) es) 0

set_here : (t : Bool) (p q r : Pair) (w v : ℕ) (es : Table) → same_pair p r ≡ true → same_pair q r ≡ t → v ≡ w
    → unwrap_or (cond t (Some (w + 1)) (lookup (same_pair q) es)) 0
    ≡ unwrap_or (cond t (Some v) (lookup (same_pair q) es)) 0 + one (same_pair q p)
set_here true p q r w v es same test is = let k : same_pair q p ≡ true = grind (arith, nat_tests) in rw k (omega arith)
set_here false p q r w v es same test is = let k : same_pair q p ≡ false =
    grind (arith, nat_tests) in rw k (omega arith)

set_later : (t : Bool) (p q r : Pair) (v : ℕ) (before after : Option ℕ) → same_pair p r ≡ false → same_pair q r ≡ t
    → unwrap_or after 0 ≡ unwrap_or before 0 + one (same_pair q p)
    → unwrap_or (cond t (Some v) after) 0 ≡ unwrap_or (cond t (Some v) before) 0 + one (same_pair q p)
set_later true p q r v before after other test later = rw (same_pair_apart q p r other test) (omega arith)
set_later false p q r v before after other test later = later

raised_at : (t : Bool) (p q : Pair) (w : ℕ) (e : Pair × ℕ) (es : Table) → same_pair p e.0 ≡ t
    → cond t (Some e.1) (lookup (same_pair p) es) ≡ Some w
    → (lookup (same_pair p) es ≡ Some w → found (set_value (same_pair p) es (w + 1)) q
    ≡ found es q + one (same_pair q p))
    → found (cond t ((e.0, w + 1) ∷ es) (e ∷ set_value (same_pair p) es (w + 1))) q
    ≡ found (e ∷ es) q + one (same_pair q p)
raised_at true p q w e es test is later = let k : e.1 ≡ w =
    cc in set_here (same_pair q e.0) p q e.0 w e.1 es test refl k
raised_at false p q w e es test is later =
    set_later (same_pair q e.0) p q e.0 e.1 (lookup (same_pair q) es)
    (lookup (same_pair q) (set_value (same_pair p) es (w + 1))) test refl (later is)

-- a weight that is there is raised by one
pub raised : (p q : Pair) (w : ℕ) (es : Table) → lookup (same_pair p) es ≡ Some w
    → found (set_value (same_pair p) es (w + 1)) q ≡ found es q + one (same_pair q p)
raised p q w [] is = absurd cc
raised p q w (e ∷ es) is = raised_at (same_pair p e.0) p q w e es refl is (λ later. raised p q w es later)

added_at : (t : Bool) (p q : Pair) (e : Pair × ℕ) (es : Table) → same_pair p e.0 ≡ t
    → cond t (Some e.1) (lookup (same_pair p) es) ≡ None
    → (lookup (same_pair p) es ≡ None → found (insert_entry same_pair es p 1) q ≡ found es q + one (same_pair q p))
    → found (cond t ((e.0, 1) ∷ es) (e ∷ insert_entry same_pair es p 1)) q ≡ found (e ∷ es) q + one (same_pair q p)
added_at true p q e es test is later = absurd cc
added_at false p q e es test is later =
    set_later (same_pair q e.0) p q e.0 e.1 (lookup (same_pair q) es)
    (lookup (same_pair q) (insert_entry same_pair es p 1)) test refl (later is)

added_alone : (t : Bool) → unwrap_or (cond t (Some 1) None) 0 ≡ 0 + one t
added_alone true = refl
added_alone false = refl

-- a pair that isn't there gets the weight 1
pub added : (p q : Pair) (es : Table) → lookup (same_pair p) es ≡ None
    → found (insert_entry same_pair es p 1) q ≡ found es q + one (same_pair q p)
added p q [] is = added_alone (same_pair q p)
added p q (e ∷ es) is = added_at (same_pair p e.0) p q e es refl is (λ later. added p q es later)

abbrev Counted : Pair × ℕ → Type 0
Counted e = 0 < e.1

set_counted_at : (t : Bool) (p : Pair) (w : ℕ) (e : Pair × ℕ) (es : Table) → Counted e → All Counted es
    → All Counted (set_value (same_pair p) es (w + 1))
    → All Counted (cond t ((e.0, w + 1) ∷ es) (e ∷ set_value (same_pair p) es (w + 1)))
set_counted_at true p w e es here rest later = All-cons Counted (e.0, w + 1) es (omega arith) rest
set_counted_at false p w e es here rest later = All-cons Counted e (set_value (same_pair p) es (w + 1)) here later

-- all weights stay above 0
pub set_counted : (p : Pair) (w : ℕ) (es : Table) → All Counted es → All Counted (set_value (same_pair p) es (w + 1))
set_counted p w [] all = All-nil Counted
set_counted p w (e ∷ es) all =
    let rest = All-tail Counted e es all in
    set_counted_at (same_pair p e.0) p w e es (All-head Counted e es all) rest (set_counted p w es rest)

insert_counted_at : (t : Bool) (p : Pair) (e : Pair × ℕ) (es : Table) → Counted e → All Counted es
    → All Counted (insert_entry same_pair es p 1)
    → All Counted (cond t ((e.0, 1) ∷ es) (e ∷ insert_entry same_pair es p 1))
insert_counted_at true p e es here rest later = All-cons Counted (e.0, 1) es (omega arith) rest
insert_counted_at false p e es here rest later = All-cons Counted e (insert_entry same_pair es p 1) here later

pub insert_counted : (p : Pair) (es : Table) → All Counted es → All Counted (insert_entry same_pair es p 1)
insert_counted p [] all = All-cons Counted (p, 1) [] (omega arith) all
insert_counted p (e ∷ es) all =
    let rest = All-tail Counted e es all in
    insert_counted_at (same_pair p e.0) p e es (All-head Counted e es all) rest (insert_counted p es rest)
