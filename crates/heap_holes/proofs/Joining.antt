-- A block is joined with the hole behind it, if they touch.
use Rattle.std.proofs.Common.{◌≡◌, ◌≢◌, ℕ, ◌+◌, ◌*◌, ◌<◌, ◌≤◌, ◌⊎◌, true, false, List, [], ◌∷◌, refl, sym, ◌∙◌, ap}
use Rattle.std.proofs.Common.{subst, arith, inl, inr}
use Rattle.std.specs.Prelude.{nat_lt, min}
use Rattle.std.proofs.lemmas.Bool.{cases_eq}
use Rattle.std.proofs.lemmas.Bool.Decides.{nat_tests}
use Rattle.rv_isa.specs.declared.Cond.TheVariants.{Eq}
use Rattle.place_spec.specs.declared.parts.Hole.{Hole}
use Rattle.place_spec.specs.Release.{with_hole}
use Rattle.place_spec.proofs.HoleLists.{Ascends}
use Rattle.place_spec.proofs.Lists.{Each}
use Rattle.frag_code.specs.Ends.{Ends}
use Rattle.frag_code.specs.Fragments.{If, Skip}
use Rattle.frag_code.specs.Frames.{assigns}
use Rattle.frag_code.specs.Meaning.{View, Rights, put, frag_run}
use Rattle.frag_code.proofs.Rules.{view, imm_then, compute_then, load_then, store_then, if_taken, if_other, seq_ends}
use Rattle.frag_code.proofs.Rules.{skip_ends}
use Rattle.frag_rules.specs.Rights.{in_span, one_span}
use Rattle.frag_rules.proofs.Narrow.{ends_keep_all}
use Rattle.frag_rules.proofs.Spans.{in_span_yes, put_here, put_there}
use Rattle.frag_rules.proofs.Values.{add_is, times_8, plus_is, eq_yes, eq_no}
use Rattle.heap_spec.specs.Tables.{SpellsHoles}
use Rattle.heap_holes.specs.Releasing.{absorb, join_next}
use Rattle.heap_holes.proofs.Finding.{Ground}
use Rattle.heap_holes.proofs.Zipper.{hole, link_of, HasSeen, Descends, after}

-- the last passed hole ends at or before a granule
abbrev pub EndsBy : List Hole → ℕ → Type 0
EndsBy [] start = Unit {0}
EndsBy (x ∷ seen) start = x.start + x.length ≤ start

-- the next hole begins at a granule or behind it
abbrev pub Ahead : ℕ → List Hole → Type 0
Ahead e [] = Unit {0}
Ahead e (h ∷ hs) = e ≤ h.start

-- a block of `long` granules from `first` on stands between the passed holes and the rest
pub record Between (rows head n first long : ℕ) (m : ℕ → ℕ) (seen rest : List Hole) : Type 0 where
  pub passed : HasSeen rows head m seen
  pub coming : SpellsHoles rows m (m (link_of rows head seen)) rest
  pub descends : Descends seen
  pub ascends : Ascends (after seen) rest
  pub inside : Each (λ h. h.start + h.length ≤ n) rest
  pub behind : EndsBy seen first
  pub ahead : Ahead (first + long) rest
  pub filled : 0 < long
  pub within : first + long ≤ n
  pub row : m (rows + 8 * first) ≡ long

-- how many granules the hole behind granule e has if it begins there, and the holes behind that
pub record Joins (e : ℕ) (rest : List Hole) (more : ℕ) (left : List Hole) : Type 0 where
  pub ascends : Ascends (e + more + 1) left
  pub is : (s l : ℕ) → s + l ≡ e → with_hole (hole s l) rest ≡ hole s (l + more) ∷ left

pub before : (s l : ℕ) (rest : List Hole) → Ascends (s + l + 1) rest → with_hole (hole s l) rest ≡ hole s l ∷ rest
before s l [] a = refl
before s l (y ∷ ys) a =
    let low = a.0 in
    let t : nat_lt (y.start + y.length) s ≡ false = grind (arith, nat_tests) in
    let u : nat_lt (s + l) y.start ≡ true = grind (arith, nat_tests) in
    rw (t, u) refl

pub joins_none : (e : ℕ) (rest : List Hole) → Ascends (e + 1) rest → Joins e rest 0 rest
joins_none e rest a = record {
  ascends = let q : e + 1 ≡ e + 0 + 1 = omega arith in subst (λ k. Ascends k rest) q a;
  is = λ s l q.
      let same : l ≡ l + 0 = omega arith in
      let place : e + 1 ≡ s + l + 1 = omega (arith, q) in
      before s l rest (subst (λ k. Ascends k rest) place a) ∙ ap (λ k. hole s k ∷ rest) same;
}

pub joins_one : (e : ℕ) (h : Hole) (rest : List Hole) → h.start ≡ e → Ascends (h.start + h.length + 1) rest
    → 0 < h.length
    → Joins e (h ∷ rest) h.length rest
joins_one e h rest at a filled = record {
  ascends = let q : h.start + h.length + 1 ≡ e + h.length + 1 = omega (arith, at) in subst (λ k. Ascends k rest) q a;
  is = λ s l q.
      let t : nat_lt (h.start + h.length) s ≡ false = grind (arith, nat_tests) in
      let u : nat_lt (s + l) h.start ≡ false = grind (arith, nat_tests) in
      let least : min s h.start ≡ s = omega (arith, q, at) in
      let one : with_hole (hole s l) (h ∷ rest) ≡ with_hole (hole s (l + h.length)) rest =
      rw (t, u) (ap (λ k. with_hole (hole k (l + h.length)) rest) least) in
      let place : h.start + h.length + 1 ≡ s + (l + h.length) + 1 = omega (arith, q, at) in
      one ∙ before s (l + h.length) rest (subst (λ k. Ascends k rest) place a);
}

-- what is so after it
pub record Joined (rows n first long : ℕ) (rest : List Hole) (m : ℕ → ℕ) (most : ℕ) (t : View) : Type 0 where
  pub more : ℕ
  pub left : List Hole
  pub joins : Joins (first + long) rest more left
  pub coming : SpellsHoles rows m (t.registers 6) left
  pub inside : Each (λ h. h.start + h.length ≤ n) left
  pub within : first + long + more ≤ n
  pub long_is : t.registers 28 ≡ long + more
  pub row : t.memory (rows + 8 * first) ≡ long + more
  pub others : (k : ℕ) → k ≢ rows + 8 * first → t.memory k ≡ m k
  pub spent : t.spent ≤ most

module _ (rows head n : ℕ) (f : Ground rows head n) (w first long : ℕ) (m : ℕ → ℕ) (seen rest : List Hole)
    (k : Between rows head n first long m seen rest) where
  abbrev g : Rights
  g = one_span head (rows + 8 * n)

  abbrev row : ℕ
  row = rows + 8 * first

  may : (a : ℕ) → head ≤ a → a < rows + 8 * n → in_span head (rows + 8 * n) a ≡ true
  may a l h = in_span_yes head (rows + 8 * n) a l h

  -- the hole begins behind the block
  apart_ends : (r : ℕ → ℕ) (c most : ℕ) → Ascends (first + long + 1) rest → r 6 ≡ m (link_of rows head seen)
      → r 28 ≡ long → c ≤ most
      → Ends (frag_run g Skip w (view r m c)) (Joined rows n first long rest m most)
  apart_ends r c most a word long_is le =
      skip_ends _ _ _ _ _ _ (record {
        more = 0;
        left = rest;
        joins = joins_none (first + long) rest a;
        coming = subst (λ x. SpellsHoles rows m x rest) (sym word) k.coming;
        inside = k.inside;
        within = let l = k.within in omega (arith, l);
        long_is = omega (arith, long_is);
        row = let q = k.row in omega (arith, q);
        others = λ x other. refl;
        spent = le;
      })

  absorb_ends : (h : Hole) (others : List Hole) (r : ℕ → ℕ) (c most : ℕ) → h ∷ others ≡ rest → h.start ≡ first + long
      → r 6 ≡ h.start → r 7 ≡ row → r 11 ≡ rows → r 28 ≡ long → c + 18 ≤ most
      → SpellsHoles rows m h.start (h ∷ others) → Ascends (after seen) (h ∷ others)
      → Each (λ x. x.start + x.length ≤ n) (h ∷ others)
      → Ends (frag_run g absorb w (view r m c)) (Joined rows n first long rest m most)
  absorb_ends h others r c most e at word at_row base long_is le spells asc inside =
      let top = f.top in
      let order = f.order in
      let a = f.rows_aligned in
      let i = inside.0 in
      let filled = asc.1.0 in
      let near : ℕ = rows + 8 * h.start in
      imm_then _ _ _ _ _ _ _ _ _ _ _ (8 * h.start)
      (times_8 (r 6) (8 * h.start) (omega (arith, word)) (omega (arith, i, top, filled)))
      (compute_then _ _ _ _ _ _ _ _ _ _ _ near
      (add_is (8 * h.start) (r 11) near (omega (arith, base)) (omega (arith, i, top, filled)))
      (load_then _ _ _ _ _ _ _ _ _ _ (near + 4) (m (near + 4))
      (plus_is near 4 (near + 4) refl (omega (arith, i, top, filled)))
      (omega (arith, a)) (may (near + 4) (omega (arith, order)) (omega (arith, i, filled))) refl
      (load_then _ _ _ _ _ _ _ _ _ _ near h.length (plus_is near 0 near (omega arith) (omega (arith, i, top, filled)))
      (omega (arith, a)) (may near (omega (arith, order)) (omega (arith, i, filled))) spells.1
      (compute_then _ _ _ _ _ _ _ _ _ _ _ (long + h.length)
      (add_is (r 28) h.length (long + h.length) (omega (arith, long_is)) (omega (arith, i, at, top)))
      (store_then _ _ _ _ _ _ _ _ _ _ row (long + h.length)
      (plus_is (r 7) 0 row (omega (arith, at_row)) (omega (arith, i, at, top, filled)))
      (omega (arith, a)) (may row (omega (arith, order)) (omega (arith, i, at, filled))) (omega (arith, i, at, top))
      (skip_ends _ _ _ _ _ _ (record {
        more = h.length;
        left = others;
        joins = subst (λ hs. Joins (first + long) hs h.length others) e
            (joins_one (first + long) h others at asc.1.1 filled);
        coming = spells.2;
        inside = inside.1;
        within = omega (arith, i, at);
        long_is = refl;
        row = put_here m row (long + h.length) row refl;
        others = λ x other. put_there m row (long + h.length) x other;
        spent = omega (arith, le);
      })))))))

  joins_next : (r : ℕ → ℕ) (c : ℕ) → r 6 ≡ m (link_of rows head seen) → r 7 ≡ row → r 10 ≡ first → r 11 ≡ rows
      → Ends (frag_run g join_next w (view r m c)) (Joined rows n first long rest m (c + 27))
  joins_next r c word at_row given base =
      let top = f.top in
      let order = f.order in
      let a = f.rows_aligned in
      let l = k.within in
      let p = k.filled in
      load_then _ _ _ _ _ _ _ _ _ _ row long (plus_is (r 7) 0 row (omega (arith, at_row)) (omega (arith, l, p, top)))
      (omega (arith, a)) (may row (omega (arith, order)) (omega (arith, l, p))) k.row
      (compute_then _ _ _ _ _ _ _ _ _ _ _ (first + long)
      (add_is (r 10) long (first + long) (omega (arith, given)) (omega (arith, l, top)))
      (seq_ends _ _ _ _ _ _ _ _ (Joined rows n first long rest m (c + 27))
      (by rest refl k.coming k.ascends k.inside k.ahead) (λ r' m' c' q. skip_ends _ _ _ _ _ _ q)))
    where
      by : (hs : List Hole) → hs ≡ rest → SpellsHoles rows m (m (link_of rows head seen)) hs → Ascends (after seen) hs
          → Each (λ h. h.start + h.length ≤ n) hs → Ahead (first + long) hs
          → Ends (frag_run g (If Eq 29 6 absorb Skip) w (view (put (put r 28 long) 29 (first + long)) m (c + 3 + 3)))
          (Joined rows n first long rest m (c + 27))
      by [] e spells asc inside ahead =
          let l = k.within in
          let p = k.filled in
          let top = f.top in
          if_other _ _ _ _ _ _ _ _ _ _ _ (eq_no (first + long) (r 6) (λ q. omega (arith, q, word, spells, l, p, top)))
          (apart_ends (put (put r 28 long) 29 (first + long)) (c + 3 + 3 + 3) (c + 27)
          (subst (Ascends (first + long + 1)) e tt) word refl (omega arith))
      by (h ∷ hs) e spells asc inside ahead = at (cases_eq h.start (first + long))
        where
          at : (h.start ≡ first + long) ⊎ (h.start ≡ first + long → ⊥)
              → Ends (frag_run g (If Eq 29 6 absorb Skip) w
              (view (put (put r 28 long) 29 (first + long)) m (c + 3 + 3)))
              (Joined rows n first long rest m (c + 27))
          at (inl q) =
              if_taken _ _ _ _ _ _ _ _ _ _ _ (eq_yes (first + long) (r 6) (sym (word ∙ (spells.0 ∙ q))))
              (absorb_ends h hs (put (put r 28 long) 29 (first + long)) (c + 3 + 3 + 3) (c + 27) e q
              (word ∙ spells.0) at_row base refl (omega arith)
              (subst (λ x. SpellsHoles rows m x (h ∷ hs)) spells.0 spells) asc inside)
          at (inr other) =
              if_other _ _ _ _ _ _ _ _ _ _ _ (eq_no (first + long) (r 6) (λ q. other (sym (q ∙ (word ∙ spells.0)))))
              (apart_ends (put (put r 28 long) 29 (first + long)) (c + 3 + 3 + 3) (c + 27)
              (subst (Ascends (first + long + 1)) e (omega (arith, ahead, other), asc.1)) word refl (omega arith))

  pub join_next_ends : (r : ℕ → ℕ) (c : ℕ) → r 6 ≡ m (link_of rows head seen) → r 7 ≡ row → r 10 ≡ first → r 11 ≡ rows
      → Ends (frag_run g join_next w (view r m c))
      (λ t. Joined rows n first long rest m (c + 27) t × ((j : ℕ) → assigns join_next j ≡ false → t.registers j ≡ r j))
  join_next_ends r c word at_row given base =
      ends_keep_all g join_next w (view r m c) (Joined rows n first long rest m (c + 27))
      (joins_next r c word at_row given base)
