-- Stretches of addresses that lie in one range, in memories of one shape.
use Rattle.std.proofs.Common.{◌≡◌, ℕ, ◌<◌, ◌≤◌, List, [], ◌∷◌, Bool, true, false, cond, map, length, refl, ap, sym, ◌∙◌}
use Rattle.std.proofs.Common.{subst, arith}
use Rattle.std.specs.Prelude.{Some, None}
use Rattle.machine_spec.specs.Memory.{Range, Shape, shape_of, range_at, covers}
use Rattle.heap_spec.specs.Service.{LiesIn}

-- the range that is found covers the address
found_covers : (m : List Range) (a : ℕ) (r : Range) → range_at m a ≡ Some r → covers a r ≡ true
found_covers [] a r e = absurd (cc)
found_covers (q ∷ qs) a r e = at (covers a q) refl (found_covers qs a r) e
  where
    at : (t : Bool) → covers a q ≡ t → (range_at qs a ≡ Some r → covers a r ≡ true)
        → cond t (Some q) (range_at qs a) ≡ Some r → covers a r ≡ true
    at true c ih e = let same : q ≡ r = cc in subst (λ x. covers a x ≡ true) same c
    at false c ih e = ih e

-- a stretch that lies in one range of a memory lies in one of another, which has the same flags
pub record LiesAlike (m : List Range) (from to : ℕ) (r : Range) : Type 0 where
  pub lies : LiesIn m from to
  pub shape : shape_of lies.range ≡ shape_of r

covers_alike : (q r : Range) (a : ℕ) → shape_of q ≡ shape_of r → covers a q ≡ covers a r
covers_alike q r a e =
    let start : q.start ≡ r.start = ap (λ (s : Shape). s.start) e in
    let size : length q.bytes ≡ length r.bytes = ap (λ (s : Shape). s.size) e in
    rw (start, size) refl

pub lies_alike : (m n : List Range) (from to : ℕ) (r : Range) → map shape_of m ≡ map shape_of n → from < to
    → ((a : ℕ) → from ≤ a → a < to → range_at n a ≡ Some r) → LiesAlike m from to r
lies_alike m [] from to r e some there =
    let none : None ≡ Some r = there from (omega arith) some in absurd (cc)
lies_alike [] (x ∷ xs) from to r e some there = absurd (cc)
lies_alike (q ∷ qs) (x ∷ xs) from to r e some there =
    by_first (λ later. lies_alike qs xs from to r rest some later) (covers from x) refl
  where
    first : shape_of q ≡ shape_of x
    first = cc

    rest : map shape_of qs ≡ map shape_of xs
    rest = cc

    same : (a : ℕ) → covers a q ≡ covers a x
    same a = covers_alike q x a first

    here : (a : ℕ) → from ≤ a → a < to → (t : Bool) → covers a x ≡ t → cond t (Some x) (range_at xs a) ≡ Some r
        → x ≡ r → covers a x ≡ true
    here a low high true c f is = c
    here a low high false c f is = subst (λ y. covers a y ≡ true) (sym is) (found_covers xs a r f)

    later : (a : ℕ) → (t : Bool) → covers a x ≡ t → cond t (Some x) (range_at xs a) ≡ Some r
        → (x ≡ r → ⊥) → range_at xs a ≡ Some r
    later a true c f never = absurd (never (cc))
    later a false c f never = f

    by_first : (((a : ℕ) → from ≤ a → a < to → range_at xs a ≡ Some r) → LiesAlike qs from to r)
        → (t : Bool) → covers from x ≡ t → LiesAlike (q ∷ qs) from to r
    by_first again true c =
        let start : cond true (Some x) (range_at xs from) ≡ Some r =
        subst (λ t. cond t (Some x) (range_at xs from) ≡ Some r) c (there from (omega arith) some) in
        let is : x ≡ r = cc in
        record {
          lies = record {
            range = q;
            there = λ a low high.
                ap (λ t. cond t (Some q) (range_at qs a)) (same a ∙ here a low high (covers a x) refl
                (there a low high) is);
          };
          shape = first ∙ ap shape_of is;
        }
    by_first again false c =
        let start : range_at xs from ≡ Some r =
        subst (λ t. cond t (Some x) (range_at xs from) ≡ Some r) c (there from (omega arith) some) in
        let never : x ≡ r → ⊥ = λ is.
        let clash : false ≡ true = sym c ∙ subst (λ y. covers from y ≡ true) (sym is) (found_covers xs from r start)
        in absurd (cc) in
        let ih : LiesAlike qs from to r = again
        (λ a low high. later a (covers a x) refl (there a low high) never) in
        record {
          lies = record {
            range = ih.lies.range;
            there = λ a low high.
                ap (λ t. cond t (Some q) (range_at qs a)) (same a ∙ apart a low high never (covers a x) refl
                (there a low high))
                ∙ ih.lies.there a low high;
          };
          shape = ih.shape;
        }
      where
        apart : (a : ℕ) → from ≤ a → a < to → (x ≡ r → ⊥) → (t : Bool) → covers a x ≡ t
            → cond t (Some x) (range_at xs a) ≡ Some r → covers a x ≡ false
        apart a low high never true c f = absurd (never (cc))
        apart a low high never false c f = c
