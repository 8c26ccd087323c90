-- A list of ascending holes with one more, by the number of those that begin below it.
use Rattle.std.proofs.Common.{◌≡◌, ℕ, zero, suc, ◌+◌, ◌-◌, ◌<◌, ◌≤◌, ◌⊎◌, cond, true, false, List, [], ◌∷◌, ◌++◌}
use Rattle.std.proofs.Common.{length, get_or, set, take, drop, sym, ◌∙◌, subst, inl, inr, refl, ap, arith}
use Rattle.std.specs.Prelude.{All, AllPairs, nat_lt, min, insert, remove, IsTrue, ◌↔◌}
use Rattle.std.proofs.lemmas.Bool.{lt-ltb, le-ltb, ltb-true, cases_eq}
use Rattle.std.proofs.lemmas.List.{set_split}
use Rattle.std.proofs.lemmas.List.Edits.{length-insert}
use Rattle.place_spec.specs.declared.parts.Hole.{Hole}
use Rattle.place_spec.specs.Layout.{hole_of}
use Rattle.place_spec.specs.Release.{joined, with_hole}
use Rattle.place_spec.specs.Sound.{Apart}

abbrev pub end_of : Hole → ℕ
end_of h = h.start + h.length

abbrev pub Ascending : List Hole → Type 0
Ascending hs = AllPairs (λ h x. end_of h < x.start) hs

-- holes that begin below a granule come first
pub parted : (hs : List Hole) (g : ℕ) → Ascending hs → (i j : ℕ) (d : Hole) → i ≤ j → j < length hs
    → nat_lt (get_or hs j d).start g ≡ true → nat_lt (get_or hs i d).start g ≡ true
parted hs g a i j d l m e = at (cases_eq i j)
  where
    at : (i ≡ j) ⊎ (i ≡ j → ⊥) → nat_lt (get_or hs i d).start g ≡ true
    at (inl q) = subst (λ x. nat_lt (get_or hs x d).start g ≡ true) (sym q) e
    at (inr n) =
        let b = a i j d (omega (arith, l, n)) m in
        let c = ltb-true (get_or hs j d).start g e in lt-ltb (get_or hs i d).start g (omega (arith, b, c))

-- a hole is put behind those that end below it
behind : (h : Hole) (xs : List Hole) (n : ℕ) → n ≤ length xs → ((k : ℕ) → k < n → end_of (hole_of xs k) < h.start)
    → with_hole h xs ≡ take n xs ++ with_hole h (drop n xs)
behind h xs zero l e = refl
behind h [] (suc n) l e = absurd (omega (arith, l))
behind h (x ∷ xs) (suc n) l e =
    ap (λ v. cond v (x ∷ with_hole h xs) (cond (nat_lt (h.start + h.length) x.start) (h ∷ x ∷ xs)
    (with_hole (joined h x) xs)))
    (lt-ltb (x.start + x.length) h.start (e 0 (omega arith)))
    ∙ ap (λ ys. x ∷ ys) (behind h xs n (omega (arith, l)) (λ k m. e (suc k) (omega (arith, m))))

-- the holes from n on begin above a granule
abbrev pub Above : ℕ → List Hole → ℕ → Type 0
Above g xs n = n < length xs → g < (hole_of xs n).start

front : (h : Hole) (xs : List Hole) (n : ℕ) → Above (end_of h) xs n → with_hole h (drop n xs) ≡ h ∷ drop n xs
front h [] zero a = refl
front h [] (suc n) a = refl
front h (x ∷ xs) zero a =
    let m = a (omega arith) in
    ap (λ v. cond v (x ∷ with_hole h xs) (cond (nat_lt (h.start + h.length) x.start) (h ∷ x ∷ xs)
    (with_hole (joined h x) xs)))
    (le-ltb (x.start + x.length) h.start (omega (arith, m)))
    ∙ ap (λ v. cond v (h ∷ x ∷ xs) (with_hole (joined h x) xs)) (lt-ltb (h.start + h.length) x.start m)
front h (x ∷ xs) (suc n) a = front h xs n (λ l. a (omega (arith, l)))

-- a hole that touches the next one
onto : (h : Hole) (xs : List Hole) (n : ℕ) → n < length xs
    → h.start ≤ end_of (hole_of xs n) → (hole_of xs n).start ≤ end_of h
    → with_hole h (drop n xs) ≡ with_hole (joined h (hole_of xs n)) (drop (suc n) xs)
onto h [] n l a b = absurd (omega (arith, l))
onto h (x ∷ xs) zero l a b =
    ap (λ v. cond v (x ∷ with_hole h xs) (cond (nat_lt (h.start + h.length) x.start) (h ∷ x ∷ xs)
    (with_hole (joined h x) xs)))
    (le-ltb (x.start + x.length) h.start a)
    ∙ ap (λ v. cond v (h ∷ x ∷ xs) (with_hole (joined h x) xs)) (le-ltb (h.start + h.length) x.start b)
onto h (x ∷ xs) (suc n) l a b = onto h xs n (omega (arith, l)) a b

abbrev pub Below : Hole → List Hole → ℕ → Type 0
Below h xs n = (k : ℕ) → k < n → end_of (hole_of xs k) < h.start

-- it touches none
pub alone : (h : Hole) (xs : List Hole) (n : ℕ) → n ≤ length xs → Below h xs n → Above (end_of h) xs n
    → with_hole h xs ≡ insert xs n h
alone h xs n l b a = behind h xs n l b ∙ ap (λ ys. take n xs ++ ys) (front h xs n a)

-- it touches the one above it
pub with_above : (h : Hole) (xs : List Hole) (n : ℕ) → n < length xs → Below h xs n → end_of h ≡ (hole_of xs n).start
    → Above (end_of (hole_of xs n)) xs (suc n)
    → with_hole h xs ≡ set xs n (record { start = h.start; length = h.length + (hole_of xs n).length })
with_above h xs n l b e a =
    let t : min h.start (hole_of xs n).start ≡ h.start = omega (arith, e) in
    behind h xs n (omega (arith, l)) b
    ∙ (ap (λ ys. take n xs ++ ys)
    (onto h xs n l (omega (arith, e)) (omega (arith, e))
    ∙ (ap (λ s. with_hole (record { start = s; length = h.length + (hole_of xs n).length }) (drop (suc n) xs)) t
    ∙ front (record { start = h.start; length = h.length + (hole_of xs n).length }) xs (suc n)
    (λ m. let q = a m in omega (arith, q, e))))
    ∙ sym (set_split xs n (record { start = h.start; length = h.length + (hole_of xs n).length }) l))

-- it touches the one below it
pub with_below : (h : Hole) (xs : List Hole) (m : ℕ) → m < length xs → Below h xs m → end_of (hole_of xs m) ≡ h.start
    → Above (end_of h) xs (suc m)
    → with_hole h xs ≡ set xs m (record { start = (hole_of xs m).start; length = (hole_of xs m).length + h.length })
with_below h xs m l b e a =
    let s : min h.start (hole_of xs m).start ≡ (hole_of xs m).start = omega (arith, e) in
    let t : h.length + (hole_of xs m).length ≡ (hole_of xs m).length + h.length = omega arith in
    behind h xs m (omega (arith, l)) b
    ∙ (ap (λ ys. take m xs ++ ys)
    (onto h xs m l (omega (arith, e)) (omega (arith, e))
    ∙ (ap (λ x. with_hole (record { start = x; length = h.length + (hole_of xs m).length }) (drop (suc m) xs)) s
    ∙ (ap (λ x. with_hole (record { start = (hole_of xs m).start; length = x }) (drop (suc m) xs)) t
    ∙ front (record { start = (hole_of xs m).start; length = (hole_of xs m).length + h.length }) xs (suc m)
    (λ n. let q = a n in omega (arith, q, e)))))
    ∙ sym (set_split xs m (record { start = (hole_of xs m).start; length = (hole_of xs m).length + h.length }) l))

set_removed : (xs : List Hole) (m : ℕ) (a : Hole) → suc m < length xs
    → set (remove xs (suc m)) m a ≡ take m xs ++ a ∷ drop (suc (suc m)) xs
set_removed [] m a l = absurd (omega (arith, l))
set_removed (x ∷ []) m a l = absurd (omega (arith, l))
set_removed (x ∷ y ∷ xs) zero a l = refl
set_removed (x ∷ y ∷ xs) (suc m) a l = ap (λ ys. x ∷ ys) (set_removed (y ∷ xs) m a (omega (arith, l)))

-- it touches both
pub with_both : (h : Hole) (xs : List Hole) (m : ℕ) → suc m < length xs → Below h xs m → end_of (hole_of xs m) ≡ h.start
    → end_of h ≡ (hole_of xs (suc m)).start → Above (end_of (hole_of xs (suc m))) xs (suc (suc m))
    → with_hole h xs ≡ set (remove xs (suc m)) m
    (record { start = (hole_of xs m).start; length = (hole_of xs m).length + (h.length + (hole_of xs (suc m)).length) })
with_both h xs m l b e f a =
    let s : min (min h.start (hole_of xs m).start) (hole_of xs (suc m)).start ≡ (hole_of xs m).start =
    omega (arith, e, f) in
    let t : h.length + (hole_of xs m).length + (hole_of xs (suc m)).length
    ≡ (hole_of xs m).length + (h.length + (hole_of xs (suc m)).length) = omega arith in
    let one : Hole = record {
      start = (hole_of xs m).start;
      length =
          (hole_of xs m).length + (h.length + (hole_of xs (suc m)).length);
    } in
    behind h xs m (omega (arith, l)) b
    ∙ (ap (λ ys. take m xs ++ ys)
    (onto h xs m (omega (arith, l)) (omega (arith, e)) (omega (arith, e))
    ∙ (onto (joined h (hole_of xs m)) xs (suc m) l (omega (arith, e, f)) (omega (arith, e, f))
    ∙ (ap (λ x. with_hole (record {
      start = x;
      length = h.length + (hole_of xs m).length + (hole_of xs (suc m)).length;
    }) (drop (suc (suc m)) xs)) s
    ∙ (ap (λ x. with_hole (record { start = (hole_of xs m).start; length = x }) (drop (suc (suc m)) xs)) t
    ∙ front one xs (suc (suc m)) (λ n. let q = a n in omega (arith, q, e, f))))))
    ∙ sym (set_removed xs m one l))

-- a hole beside ascending ones, of which n begin below it
pub record Around (h : Hole) (xs : List Hole) (n : ℕ) : Type 0 where
  pub bound : n ≤ length xs
  pub ascending : Ascending xs
  pub filled : All (λ x. 0 < x.length) xs
  pub apart : All (λ x. Apart h.start h.length x.start x.length) xs
  pub below : (k : ℕ) → k < n → (hole_of xs k).start < h.start
  pub above : (k : ℕ) → n ≤ k → k < length xs → h.start ≤ (hole_of xs k).start

abbrev no_hole : Hole
no_hole = record { start = 0; length = 0 }

ends_below : (h : Hole) (xs : List Hole) (n : ℕ) → Around h xs n → (k : ℕ) → k < n → end_of (hole_of xs k) ≤ h.start
ends_below h xs n a k l = at (a.apart k no_hole (let b = a.bound in omega (arith, l, b)))
  where
    at : Apart h.start h.length (hole_of xs k).start (hole_of xs k).length → end_of (hole_of xs k) ≤ h.start
    at (inl q) = absurd (let b = a.below k l in omega (arith, q, b))
    at (inr q) = q

begins_above : (h : Hole) (xs : List Hole) (n : ℕ) → Around h xs n → (k : ℕ) → n ≤ k → k < length xs
    → end_of h ≤ (hole_of xs k).start
begins_above h xs n a k l m = at (a.apart k no_hole m)
  where
    at : Apart h.start h.length (hole_of xs k).start (hole_of xs k).length → end_of h ≤ (hole_of xs k).start
    at (inl q) = q
    at (inr q) = absurd (let b = a.above k l m in let f : 0 < (hole_of xs k).length = a.filled k no_hole m in
        omega (arith, q, b, f))

-- those below the one that it touches, and those below it where it touches none
below_one : (h : Hole) (xs : List Hole) (m n : ℕ) → n ≡ suc m → Around h xs n → Below h xs m
below_one h xs m n e a = λ k l.
    let b = a.below m (omega (arith, e)) in
    let c = a.ascending k m no_hole l (let o = a.bound in omega (arith, o, e)) in omega (arith, b, c)

below_all : (h : Hole) (xs : List Hole) (n : ℕ) → Around h xs n
    → ((0 < n) × (end_of (hole_of xs (n - 1)) ≡ h.start) → ⊥) → Below h xs n
below_all h xs n a o = λ k l. at k l (cases_eq k (n - 1))
  where
    at : (k : ℕ) → k < n → (k ≡ n - 1) ⊎ (k ≡ n - 1 → ⊥) → end_of (hole_of xs k) < h.start
    at k l (inr q) = below_one h xs (n - 1) n (omega (arith, l)) a k (omega (arith, l, q))
    at k l (inl q) = differs (ends_below h xs n a k l) (λ e. o
        (omega (arith, l), ap (λ i. end_of (hole_of xs i)) (sym q) ∙ e))
      where
        differs : end_of (hole_of xs k) ≤ h.start → (end_of (hole_of xs k) ≡ h.start → ⊥)
            → end_of (hole_of xs k) < h.start
        differs u v = omega (arith, u, v)

above_next : (h : Hole) (xs : List Hole) (n : ℕ) → Ascending xs → Above (end_of (hole_of xs n)) xs (suc n)
above_next h xs n a = λ l. a n (suc n) no_hole (omega arith) l

above_all : (h : Hole) (xs : List Hole) (n : ℕ) → Around h xs n
    → ((n < length xs) × (end_of h ≡ (hole_of xs n).start) → ⊥) → Above (end_of h) xs n
above_all h xs n a o = λ l. differs (begins_above h xs n a n (omega arith) l) (λ e. o (l, e))
  where
    differs : end_of h ≤ (hole_of xs n).start → (end_of h ≡ (hole_of xs n).start → ⊥) → end_of h < (hole_of xs n).start
    differs u v = omega (arith, u, v)

pub alone_is : (h : Hole) (xs : List Hole) (n : ℕ) → Around h xs n
    → ((0 < n) × (end_of (hole_of xs (n - 1)) ≡ h.start) → ⊥)
    → ((n < length xs) × (end_of h ≡ (hole_of xs n).start) → ⊥) → with_hole h xs ≡ insert xs n h
alone_is h xs n a b o = alone h xs n a.bound (below_all h xs n a b) (above_all h xs n a o)

pub above_is : (h l : Hole) (xs : List Hole) (n : ℕ) → Around h xs n
    → ((0 < n) × (end_of (hole_of xs (n - 1)) ≡ h.start) → ⊥)
    → (n < length xs) × (end_of h ≡ (hole_of xs n).start) → l ≡ hole_of xs n
    → set xs n (record { start = h.start; length = h.length + l.length }) ≡ with_hole h xs
above_is h l xs n a b o e =
    ap (λ x. set xs n (record { start = h.start; length = h.length + x.length })) e
    ∙ sym (with_above h xs n o.0 (below_all h xs n a b) o.1 (above_next h xs n a.ascending))

pub below_is : (h f : Hole) (xs : List Hole) (n : ℕ) → Around h xs n → (0 < n) × (end_of (hole_of xs (n - 1)) ≡ h.start)
    → ((n < length xs) × (end_of h ≡ (hole_of xs n).start) → ⊥) → f ≡ hole_of xs (n - 1)
    → set xs (n - 1) (record { start = f.start; length = f.length + h.length }) ≡ with_hole h xs
below_is h f xs n a b o e =
    let q : n ≡ suc (n - 1) = let p = b.0 in omega (arith, p) in
    ap (λ x. set xs (n - 1) (record { start = x.start; length = x.length + h.length })) e
    ∙ sym (with_below h xs (n - 1) (let p = b.0 in let u = a.bound in omega (arith, p, u))
    (below_one h xs (n - 1) n q a) b.1
    (subst (Above (end_of h) xs) q (above_all h xs n a o)))

pub both_is : (h f l : Hole) (xs : List Hole) (n : ℕ) → Around h xs n → (0 < n)
    × (end_of (hole_of xs (n - 1)) ≡ h.start)
    → (n < length xs) × (end_of h ≡ (hole_of xs n).start) → f ≡ hole_of xs (n - 1) → l ≡ hole_of xs n
    → set (remove xs n) (n - 1) (record { start = f.start; length = f.length + (h.length + l.length) }) ≡ with_hole h xs
both_is h f l xs n a b o e d =
    let q : n ≡ suc (n - 1) = let p = b.0 in omega (arith, p) in
    ap (λ x. set (remove xs n) (n - 1) (record { start = x.start; length = x.length + (h.length + l.length) })) e
    ∙ (ap (λ x. set (remove xs n) (n - 1) (record {
      start = (hole_of xs (n - 1)).start;
      length =
          (hole_of xs (n - 1)).length + (h.length + x.length);
    })) d
    ∙ (ap (λ i. set (remove xs i) (n - 1) (record {
      start = (hole_of xs (n - 1)).start;
      length =
          (hole_of xs (n - 1)).length + (h.length + (hole_of xs i).length);
    })) q
    ∙ sym (with_both h xs (n - 1) (let p = o.0 in omega (arith, p, q)) (below_one h xs (n - 1) n q a) b.1
    (subst (λ i. end_of h ≡ (hole_of xs i).start) q o.1) (above_next h xs (suc (n - 1)) a.ascending))))

-- what the code found out of the same holes
pub around_of : (h : Hole) (xs ys : List Hole) (n : ℕ) → ys ≡ xs → n ≤ length ys
    → ((k : ℕ) → k < n → (hole_of ys k).start < h.start)
    → ((k : ℕ) → n ≤ k → k < length ys → h.start ≤ (hole_of ys k).start) → Ascending xs → All (λ x. 0 < x.length) xs
    → All (λ x. Apart h.start h.length x.start x.length) xs → Around h xs n
around_of h xs ys n e b l a s f p = record {
  bound = subst (λ zs. n ≤ length zs) e b;
  ascending = s;
  filled = f;
  apart = p;
  below = subst (λ zs. (k : ℕ) → k < n → (hole_of zs k).start < h.start) e l;
  above = subst (λ zs. (k : ℕ) → n ≤ k → k < length zs → h.start ≤ (hole_of zs k).start) e a;
}

abbrev pub TouchesBelow : Hole → List Hole → ℕ → Type 0
TouchesBelow h xs n = (0 < n) × (end_of (hole_of xs (n - 1)) ≡ h.start)

abbrev pub TouchesAbove : Hole → List Hole → ℕ → Type 0
TouchesAbove h xs n = (n < length xs) × (end_of h ≡ (hole_of xs n).start)

pub yes : (P : List Hole → Type 0) (xs ys : List Hole) → ys ≡ xs → (IsTrue true ↔ P ys) → P xs
yes P xs ys e t = subst P e (t.0 refl)

pub no : (P : List Hole → Type 0) (xs ys : List Hole) → ys ≡ xs → (IsTrue false ↔ P ys) → P xs → ⊥
no P xs ys e t p = let q : IsTrue false = t.1 (subst P (sym e) p) in cc

pub longer : (h : Hole) (xs : List Hole) (n room : ℕ) → Around h xs n → (TouchesBelow h xs n → ⊥)
    → (TouchesAbove h xs n → ⊥)
    → length (with_hole h xs) ≤ room → length xs < room
longer h xs n room a b o r =
    let e = ap length (alone_is h xs n a b o) in let l = length-insert xs n h a.bound in omega (arith, e, l, r)
